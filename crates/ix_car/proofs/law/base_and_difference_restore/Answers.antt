use Rattle.ix_car.proofs.Restored.{pairs-bytes, difference-first, base-first}
use Rattle.ix_car.proofs.law.base_and_difference_restore.Goals as goal

pub returns-clause-pairs : goal.returns-clause-pairs
returns-clause-pairs c = pairs-bytes

pub returns-clause-difference_first : goal.returns-clause-difference_first
returns-clause-difference_first c = difference-first

pub returns-clause-base_first : goal.returns-clause-base_first
returns-clause-base_first c = base-first
