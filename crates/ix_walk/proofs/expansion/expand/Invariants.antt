use Rattle.ix_walk.proofs.Expanding.{IsExpanding, links_to_come}
use Rattle.ix_walk.proofs.expansion.expand.Given as goal

abbrev pub invariant-loop-links : goal.invariant-loop-links
invariant-loop-links l = IsExpanding l.fn.block l.fn.residual l.fn.depth l.links.items l.frontier

abbrev pub decreases-loop-links : goal.decreases-loop-links
decreases-loop-links l = links_to_come l.frontier
