-- Which pairs find no free slot in a larger table, before it is made.
use Rattle.std.specs.Prelude.{◌≡◌, ℕ, zero, suc, ◌-◌, ◌^◌, ◌<◌, length, List, map, set, replicate, nat_lt, if◌then◌else◌, Bool, true, false, not, ◌==◌, slice_get, Option, Some, None}
use Rattle.std.specs.List.{position_from}
use Rattle.ix_store.specs.Store.{Blocks}
use Rattle.ix_store.specs.Index.{key_hash, first_of, window_of, end_of, place_after}
use Rattle.ix_store.specs.declared.index.Slot.{Slot}
use Rattle.ix_store.specs.declared.index.Index.{Index}

-- which slots are taken
abbrev pub is_taken : Slot → Bool
is_taken slot = not (end_of slot == 0)

abbrev pub taken_in : List Slot → List Bool
taken_in slots = map is_taken slots

-- the slot for the position of a number, where these are taken: the first free one of its look-up, if a slot can have it
abbrev pub slot_for : List Bool → ℕ → ℕ → Option ℕ
slot_for taken hash place = if nat_lt place (2 ^ 32 - 1) then position_from not (first_of taken hash) (window_of taken hash) else None

-- the slot for the pair at a position
abbrev pub slot_of_pair : List Bool → Option (List ℕ × List ℕ) → ℕ → Option ℕ
slot_of_pair taken None place = None
slot_of_pair taken (Some e) place = slot_for taken (key_hash e.0) place

-- which slots are taken after one more is, or none
abbrev pub with_taken : List Bool → Option ℕ → List Bool
with_taken taken None = taken
with_taken taken (Some slot) = set taken slot true

-- which of so many slots are taken once so many pairs were put there in turn
abbrev pub taken_by : ℕ → Blocks → ℕ → List Bool
taken_by size blocks zero = replicate size false
taken_by size blocks (suc n) = with_taken (taken_by size blocks n) (slot_of_pair (taken_by size blocks n) (slice_get blocks n) n)

-- the tree has the position of each pair, of the first ones, that finds no free slot among so many
abbrev pub HasCrowdedOf : Index → Blocks → ℕ → ℕ → Type 0
HasCrowdedOf index blocks size n = (k : ℕ) (e : List ℕ × List ℕ) → k < n → slice_get blocks k ≡ Some e → slot_for (taken_by size blocks k) (key_hash e.0) k ≡ None → place_after index e.0 ≡ Some k

-- the tree has the position of each pair that finds no free slot among so many
abbrev pub HasCrowded : Index → Blocks → ℕ → Type 0
HasCrowded index blocks size = HasCrowdedOf index blocks size (length blocks)
