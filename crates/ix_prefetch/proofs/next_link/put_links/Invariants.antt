use Rattle.std.proofs.Common.{length}
use Rattle.ix_prefetch.specs.Expansions.{ExpansionTable}
use Rattle.ix_prefetch.specs.TableState.{IsWithin}
use Rattle.ix_prefetch.proofs.Listing.{ArePut}
use Rattle.ix_prefetch.proofs.next_link.put_links.Given as goal

abbrev pub invariant-loop-link : goal.invariant-loop-link
invariant-loop-link l = (t : ExpansionTable) → IsWithin t l.fn.state → ArePut t l.fn.links.items l.links.items l.fn.state l.state

abbrev pub decreases-loop-link : goal.decreases-loop-link
decreases-loop-link l = length l.links.items
