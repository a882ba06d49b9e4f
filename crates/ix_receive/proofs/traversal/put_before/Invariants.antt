use Rattle.std.proofs.Common.{◌≡◌, ◌++◌, map, reverse, length}
use Rattle.ix_receive.specs.Traversal.{as_pending}
use Rattle.ix_receive.proofs.traversal.put_before.Given as goal

abbrev pub invariant-loop-link : goal.invariant-loop-link
invariant-loop-link l = l.links.items ++ reverse (map as_pending l.waiting.items) ≡ l.fn.links.items ++ reverse (map as_pending l.fn.waiting.items)

abbrev pub decreases-loop-link : goal.decreases-loop-link
decreases-loop-link l = length l.links.items
