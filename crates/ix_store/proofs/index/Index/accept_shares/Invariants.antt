use Rattle.std.proofs.Common.{◌≡◌, ◌*◌}
use Rattle.ix_store.specs.Index.{IsTrueAfter}
use Rattle.ix_store.proofs.Found.{AreFound}
use Rattle.ix_store.proofs.index.Index.accept_shares.Given as goal

abbrev pub invariant-loop-places : goal.invariant-loop-places
invariant-loop-places l =
    (l.self.slots ≡ l.fn.self.slots)
    × AreFound l.self l.entries (l.places-index * l.share)
    × IsTrueAfter l.self l.entries
