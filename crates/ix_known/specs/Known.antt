-- Which blocks of a store a receiver has.
use Rattle.std.specs.Prelude.{◌≡◌, ℕ, Bool, true, false, List, [], Option, None, Some, filter, map, slice_get, IfSome}
use Rattle.std.specs.List.{AllByRecursion}
use Rattle.std.specs.Borrow.{Bor}
use Rattle.ix_store.specs.Store.{Blocks, block_of, has_cid, position_of}
use Rattle.ix_store.specs.Sound.{first_copies, verdict_of_copy}
use Rattle.ix_store.specs.declared.places.PlaceSet.{PlaceSet}
use Rattle.ix_store.specs.PlaceSet.{contains_place, HasOneMoreThan}
use Rattle.ix_check.specs.Verdict.{verdict_of}
use Rattle.ix_verdict.specs.Verdict.{is_sound}

-- a base has a sound block under a CID
abbrev pub knows : Blocks → List ℕ → Bool
knows base c = is_sound (verdict_of base c)

-- the known blocks of a base: of each CID the first copy, if it is sound
abbrev pub known_blocks : Blocks → Blocks
known_blocks base = filter (λ p. is_sound (verdict_of_copy p)) (first_copies base)

-- those of a store that may be there
abbrev pub known_blocks_of : Option (Bor Blocks) → Blocks
known_blocks_of None = []
known_blocks_of (Some store) = known_blocks store.now

-- each of these blocks is sound
abbrev pub AreSound : Blocks → Type 0
AreSound pairs = AllByRecursion (λ p. is_sound (verdict_of_copy p) ≡ true) pairs

-- the known blocks are sound, their CIDs are those that the base knows, and each is the base's block
pub record AreKnownBlocks (base : Blocks) : Type 0 where
  pub sound : AreSound (known_blocks base)
  pub known : (c : List ℕ) → has_cid (known_blocks base) c ≡ knows base c
  pub same : (c : List ℕ) → knows base c ≡ true → block_of (known_blocks base) c ≡ block_of base c

-- the positions of those blocks of a store under whose CID the base has a sound block
abbrev pub IsKnownIn : Blocks → Blocks → PlaceSet → Type 0
IsKnownIn store base places = (c : List ℕ) (place : ℕ) → position_of store c ≡ Some place → contains_place places place ≡ knows base c

-- an answer, if there is one, says whether the base has a sound block under the CID of the store's block at this position
abbrev pub IsAnswerOf : Blocks → Blocks → ℕ → Option Bool → Type 0
IsAnswerOf store base place answer = IfSome answer (λ b. slice_get (map (λ e. knows base e.0) store) place ≡ Some b)

-- a position was put in if the answer is yes, and nothing was if it is no
abbrev pub IsPutIf : Option Bool → PlaceSet → PlaceSet → ℕ → Type 0
IsPutIf None old new place = ⊥
IsPutIf (Some true) old new place = HasOneMoreThan new old place
IsPutIf (Some false) old new place = new ≡ old
