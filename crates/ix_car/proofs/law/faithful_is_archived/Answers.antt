use Rattle.ix_car.proofs.Archives.{faithful-archived}
use Rattle.ix_car.proofs.law.faithful_is_archived.Goals as goal

pub returns : goal.returns
returns c = faithful-archived
