use Rattle.std.proofs.Common.{◌≡◌}
use Rattle.ix_api.specs.JobParts.{roots_in, roots_after}
use Rattle.ix_api.proofs.job_parts.roots_in.Given as goal

abbrev pub invariant-loop-rest : goal.invariant-loop-rest
invariant-loop-rest l = roots_after l.left l.roots.items l.rest ≡ roots_in l.fn.bytes

abbrev pub decreases-loop-rest : goal.decreases-loop-rest
decreases-loop-rest l = l.left
