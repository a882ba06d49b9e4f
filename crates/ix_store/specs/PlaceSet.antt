-- Bit sets of positions.
use Rattle.std.specs.Prelude.{◌≡◌, ℕ, ◌/◌, ◌%◌, ◌==◌, ◌||◌, Bool, slice_index}
use Rattle.std.specs.Int.{bit_at}
use Rattle.ix_store.specs.declared.places.PlaceSet.{PlaceSet}

-- a position is in the set: its bit is 1, and a word that isn't there has none
unfoldable pub contains_place : PlaceSet → ℕ → Bool
contains_place set n = bit_at (slice_index set.words.items (n / 64)) (n % 64) == 1

-- a set has the positions of another
abbrev pub HasThePlacesOf : PlaceSet → PlaceSet → Type 0
HasThePlacesOf set other = (n : ℕ) → contains_place set n ≡ contains_place other n

-- a set has the positions of another, and this one
abbrev pub HasOneMoreThan : PlaceSet → PlaceSet → ℕ → Type 0
HasOneMoreThan set other place = (n : ℕ) → contains_place set n ≡ ((place == n) || contains_place other n)
