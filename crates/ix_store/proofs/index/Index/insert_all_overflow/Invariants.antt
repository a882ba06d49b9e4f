use Rattle.std.proofs.Common.{◌≡◌, take, All}
use Rattle.ix_store.specs.Index.{HasAllOf, IsTrueAfter, IsAfter}
use Rattle.ix_store.proofs.index.Index.insert_all_overflow.Given as goal

abbrev pub invariant-loop-place : goal.invariant-loop-place
invariant-loop-place l =
    (l.self.slots ≡ l.fn.self.slots)
    × HasAllOf l.self l.fn.self
    × (IsTrueAfter l.fn.self l.entries → IsTrueAfter l.self l.entries)
    × All (λ p. IsAfter l.self l.entries p) (take l.place-index l.places)
