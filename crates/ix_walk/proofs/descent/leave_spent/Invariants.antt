use Rattle.std.proofs.Common.{length}
use Rattle.ix_walk.proofs.Frontiers.{IsKept}
use Rattle.ix_walk.proofs.descent.leave_spent.Given as goal

abbrev pub invariant-loop-opened : goal.invariant-loop-opened
invariant-loop-opened l = IsKept l.initial.frontier l.frontier

abbrev pub decreases-loop-opened : goal.decreases-loop-opened
decreases-loop-opened l = length l.frontier.stack.items
