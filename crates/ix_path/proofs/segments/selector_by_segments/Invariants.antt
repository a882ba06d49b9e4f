use Rattle.std.proofs.Common.{◌≡◌, ◌++◌, ℕ, List, length}
use Rattle.std.specs.Prelude.{Ok}
use Rattle.ix_path.specs.Resolution.{segments_in}
use Rattle.ix_selector.specs.Pattern.{Pattern}
use Rattle.ix_path.specs.End.{selector_at_end}
use Rattle.ix_path.specs.Segments.{IsTreeOf, pattern_by_segments}
use Rattle.ix_path.proofs.segments.selector_by_segments.Given as goal

-- the tree is that of the selector along the segments that aren't left
abbrev pub invariant-loop-segment : goal.invariant-loop-segment
invariant-loop-segment l =
    (selector : Pattern) × (gone : List (List ℕ)) × (segments_in l.left ++ gone ≡ segments_in l.segments) × (selector_at_end l.fn.end ≡ Ok selector) × IsTreeOf (pattern_by_segments gone selector) l.tree

abbrev pub decreases-loop-segment : goal.decreases-loop-segment
decreases-loop-segment l = length l.left
