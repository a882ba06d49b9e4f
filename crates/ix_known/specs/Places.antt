-- The positions in a store of the blocks of which a base has a copy.
use Rattle.std.specs.Prelude.{◌≡◌, ℕ, List, Bool, Some}
use Rattle.std.specs.Bool.{MatchBool}
use Rattle.ix_store.specs.Store.{Blocks, has_cid, position_of, with_blocks}
use Rattle.ix_store.specs.declared.places.PlaceSet.{PlaceSet}
use Rattle.ix_store.specs.PlaceSet.{contains_place, HasOneMoreThan}
use Rattle.ix_known.specs.Known.{IsKnownIn, IsPutIf}
use Rattle.ix_known.specs.declared.places.Places.{Places}

-- the positions of those blocks of a store under whose CID a base has a block, sound or not
abbrev pub IsDecidedBy : Blocks → Blocks → PlaceSet → Type 0
IsDecidedBy store base places = (c : List ℕ) (place : ℕ) → position_of store c ≡ Some place → contains_place places place ≡ has_cid base c

-- the positions are those of a base with these blocks
pub record ArePlacesOf (store base : Blocks) (places : Places) : Type 0 where
  pub known : IsKnownIn store base places.known
  pub decided : IsDecidedBy store base places.decided

-- blocks were added, of which the first of each CID counts: whatever base the positions were of, they are of it with these
abbrev pub AddsBlocks : Blocks → Places → Places → Blocks → Type 0
AddsBlocks store old new more = (base : Blocks) → ArePlacesOf store base old → ArePlacesOf store (with_blocks base more) new

-- a copy of the block at a position decided, unless an earlier one did
abbrev pub IsDecided : Places → Places → ℕ → Bool → Type 0
IsDecided old new place sound = MatchBool (contains_place old.decided place) (new ≡ old) (HasOneMoreThan new.decided old.decided place × IsPutIf (Some sound) old.known new.known place)
