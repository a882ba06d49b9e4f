use Rattle.ix_car.proofs.Numbers.{kept-verified, kept-beginning}
use Rattle.ix_car.proofs.law.cutting_is_never_going_in.Goals as goal

pub returns-clause-whole : goal.returns-clause-whole
returns-clause-whole c = kept-verified

pub returns-clause-beginning : goal.returns-clause-beginning
returns-clause-beginning c = kept-beginning
