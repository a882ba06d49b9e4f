use Rattle.ix_walk.specs.Descent.{trail_weight}
use Rattle.ix_walk.proofs.Frontiers.{IsKept}
use Rattle.ix_walk.proofs.descent.next_found.Given as goal

abbrev pub invariant-loop-opened : goal.invariant-loop-opened
invariant-loop-opened l = IsKept l.fn.frontier l.frontier

abbrev pub decreases-loop-opened : goal.decreases-loop-opened
decreases-loop-opened l = trail_weight l.frontier
