-- The positions of listed CIDs, one after another.
use Rattle.std.proofs.Common.{◌≡◌, ℕ, ◌||◌, List}
use Rattle.ix_store.specs.Store.{Blocks}
use Rattle.ix_store.specs.declared.places.PlaceSet.{PlaceSet}
use Rattle.ix_store.specs.PlaceSet.{contains_place}
use Rattle.ix_jobs.specs.Places.{is_listed_at}

-- the positions of a set, and of CIDs that are still to be inserted: the same at each turn
abbrev pub HasSoFar : Blocks → List (List ℕ) → List (List ℕ) → PlaceSet → PlaceSet → Type 0
HasSoFar store cids left old new = (n : ℕ) → (is_listed_at store left n || contains_place new n) ≡ (is_listed_at store cids n || contains_place old n)
