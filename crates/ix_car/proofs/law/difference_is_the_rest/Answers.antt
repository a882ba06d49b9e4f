use Rattle.ix_car.proofs.Archives.{difference-rest}
use Rattle.ix_car.proofs.law.difference_is_the_rest.Goals as goal

pub returns : goal.returns
returns c = difference-rest
