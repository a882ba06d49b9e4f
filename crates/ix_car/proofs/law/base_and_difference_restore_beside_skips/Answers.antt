use Rattle.ix_car.proofs.RestoredBesideSkips.{difference-first, base-first}
use Rattle.ix_car.proofs.law.base_and_difference_restore_beside_skips.Goals as goal

pub returns-clause-difference_first : goal.returns-clause-difference_first
returns-clause-difference_first c = difference-first

pub returns-clause-base_first : goal.returns-clause-base_first
returns-clause-base_first c store base number job all agrees skips = base-first store base number job agrees skips all
