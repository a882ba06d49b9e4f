use Rattle.std.proofs.Common.{[], length}
use Rattle.ix_own_archive.proofs.Rightly.{IsSoFar}
use Rattle.ix_own_archive.proofs.check.check_sections.Given as goal

abbrev pub invariant-loop-rest : goal.invariant-loop-rest
invariant-loop-rest l = IsSoFar [] l.job l.fn.allowed l.archive l.rest l.receiver

abbrev pub decreases-loop-rest : goal.decreases-loop-rest
decreases-loop-rest l = length l.rest
