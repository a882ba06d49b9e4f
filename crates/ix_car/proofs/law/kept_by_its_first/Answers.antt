use Rattle.ix_check.specs.Verdict.{passes}
use Rattle.ix_car.proofs.Pruning.{kept-first}
use Rattle.ix_car.proofs.law.kept_by_its_first.Goals as goal

pub returns-clause-first : goal.returns-clause-first
returns-clause-first c d ds = kept-first (λ e. e.visit.depth) (λ e. passes e.verdict) d ds
