use Rattle.std.proofs.Common.{◌≡◌, length}
use Rattle.std.specs.Cmp.Lexicographic.{slice_cmp}
use Rattle.std.specs.Ordering.{nat_cmp}
use Rattle.ix_cid.proofs.cid.order_of_bytes.Given as goal

-- what is left of both decides
abbrev pub invariant-words : goal.invariant-words
invariant-words l = slice_cmp nat_cmp l.here l.there ≡ slice_cmp nat_cmp l.left l.right

abbrev pub decreases-words : goal.decreases-words
decreases-words l = length l.here
