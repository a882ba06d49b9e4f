use Rattle.ix_selector.proofs.Decides.{is_entered-decides}
use Rattle.ix_selector.proofs.law.entered_is_decided.Goals as goal

pub returns-clause-entered : goal.returns-clause-entered
returns-clause-entered c s p is h = (is_entered-decides s p is).0 h

pub returns-clause-only : goal.returns-clause-only
returns-clause-only c s p is h = (is_entered-decides s p is).1 h
