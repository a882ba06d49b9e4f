-- The positions in a store of the blocks that are listed.
use Rattle.std.specs.Prelude.{◌≡◌, ℕ, Bool, false, ◌==◌, ◌||◌, List, Option, None, Some}
use Rattle.std.specs.List.{list_any}
use Rattle.ix_store.specs.Store.{Blocks, position_of}
use Rattle.ix_store.specs.declared.places.PlaceSet.{PlaceSet}
use Rattle.ix_store.specs.PlaceSet.{contains_place}

-- whether a position, if there is one, is this one
abbrev pub is_place : ℕ → Option ℕ → Bool
is_place n None = false
is_place n (Some place) = place == n

-- whether one of these CIDs has its block at a position of a store
abbrev pub is_listed_at : Blocks → List (List ℕ) → ℕ → Bool
is_listed_at store cids n = list_any (λ c. is_place n (position_of store c)) cids

-- the new set has the positions of the old one, and those of the store's blocks under these CIDs
abbrev pub HasListed : Blocks → List (List ℕ) → PlaceSet → PlaceSet → Type 0
HasListed store cids old new = (n : ℕ) → contains_place new n ≡ (is_listed_at store cids n || contains_place old n)
