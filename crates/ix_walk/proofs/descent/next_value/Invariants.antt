use Rattle.std.proofs.Common.{◌≡◌}
use Rattle.ix_walk.specs.declared.subtree.Children.TheVariants.{Values}
use Rattle.ix_walk.proofs.Openings.{Passes}
use Rattle.ix_walk.proofs.descent.next_value.Given as goal

abbrev pub invariant-loop-left : goal.invariant-loop-left
invariant-loop-left l = (l.residual ≡ l.initial.residual) × Passes l.initial.residual l.depth (Values l.initial.left) l.initial.at (Values l.left) l.at

abbrev pub decreases-loop-left : goal.decreases-loop-left
decreases-loop-left l = l.left
