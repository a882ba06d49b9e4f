-- The index of a store: a table of slots, and an overflow tree.
use Rattle.std.specs.Prelude.{◌≡◌, ◌⊎◌, ℕ, zero, suc, ◌+◌, ◌-◌, ◌*◌, ◌/◌, ◌^◌, ◌<◌, ◌≤◌, List, [], ◌∷◌, ◌++◌, length, take, drop, All, Contains, nat_lt, if◌then◌else◌, Bool, true, false, ◌&&◌, ◌==◌, bytes_eq, slice_get, slice_index_or, Option, Some, None, Result, IfOk, IfSome}
use Rattle.std.specs.Global.{Vec}
use Rattle.std.specs.declared.alloc.AllocError.{AllocError}
use Rattle.std.specs.BTreeMap.{get}
use Rattle.std.specs.Cmp.Lexicographic.{slice_cmp}
use Rattle.std.specs.Ordering.{nat_cmp}
use Rattle.std.specs.Int.{w32, w64, from_le_bytes}
use Rattle.std.specs.Int.Bits.{bit_and}
use Rattle.ix_store.specs.Store.{Blocks, HasDistinctCids, position_of}
use Rattle.ix_store.specs.declared.index.Slot.{Slot}
use Rattle.ix_store.specs.declared.index.Lookup.{Lookup}
use Rattle.ix_store.specs.declared.index.Lookup.TheVariants.{Present, Vacant, Overflow}
use Rattle.ix_store.specs.declared.index.Probe.{Probe}
use Rattle.ix_store.specs.declared.index.Probe.TheVariants.{At, Free, Full}
use Rattle.ix_store.specs.declared.index.Index.{Index}

-- the number of a CID: its last eight bytes, the first the lowest; 0 for a shorter one
abbrev pub key_hash : List ℕ → ℕ
key_hash c = if nat_lt (length c) 8 then 0 else from_le_bytes w64 (drop (length c - 8) c)

-- the fingerprint of a number: its highest byte
abbrev pub fingerprint : ℕ → ℕ
fingerprint hash = hash / 2 ^ 56

-- the slot at which the look-up of a number begins: its bits, masked by the last slot at which one may
abbrev pub first_of : {X : Type 0} → List X → ℕ → ℕ
first_of slots hash = bit_and hash (length slots - 8)

-- the slots that the look-up of a number visits
abbrev pub window_of : {X : Type 0} → List X → ℕ → List X
window_of slots hash = if nat_lt (length slots) 8 then [] else take 8 (drop (first_of slots hash) slots)

-- the position in a slot plus 1, or 0 if the slot is free
abbrev pub end_of : Slot → ℕ
end_of slot = from_le_bytes w32 slot.end

abbrev pub IsFree : Slot → Type 0
IsFree slot = end_of slot ≡ 0

-- the slot isn't free
abbrev pub IsTaken : Slot → Type 0
IsTaken slot = 0 < end_of slot

-- a slot has this fingerprint and this position
abbrev pub Has : Slot → ℕ → ℕ → Type 0
Has slot tag place = (slot.tag ≡ tag) × (end_of slot ≡ place + 1)

-- what a slot returns as its position
abbrev pub HasPlace : Slot → Option ℕ → Type 0
HasPlace slot (Some place) = end_of slot ≡ place + 1
HasPlace slot None = IsFree slot

-- no slot can have this position
abbrev pub IsLarge : ℕ → Type 0
IsLarge place = 2 ^ 32 - 1 ≤ place

-- A look-up of a fingerprint in these slots, up to the first free one, and then in the tree, comes to this position.
abbrev pub Leads : List Slot → Option ℕ → ℕ → ℕ → Type 0
Leads [] behind tag place = behind ≡ Some place
Leads (slot ∷ slots) behind tag place = IsTaken slot × (Has slot tag place ⊎ Leads slots behind tag place)

-- the look-up of a number comes to this position, or no slot can have it and the tree has
abbrev pub Comes : List Slot → Option ℕ → ℕ → ℕ → Type 0
Comes slots behind hash place = (IsLarge place × (behind ≡ Some place)) ⊎ Leads (window_of slots hash) behind (fingerprint hash) place

-- none of the slots is free
abbrev pub AreTaken : List Slot → Type 0
AreTaken [] = Unit {0}
AreTaken (slot ∷ slots) = IsTaken slot × AreTaken slots

-- the first free slot is the one at n
abbrev pub IsFirstFree : List Slot → ℕ → Type 0
IsFirstFree [] n = ⊥
IsFirstFree (slot ∷ slots) zero = IsFree slot
IsFirstFree (slot ∷ slots) (suc n) = IsTaken slot × IsFirstFree slots n

-- the position that the tree has for a CID
abbrev pub place_after : Index → List ℕ → Option ℕ
place_after index c = get (slice_cmp nat_cmp) index.overflow c

-- a look-up in these slots, and then in the tree of the index, comes to the position of each CID
abbrev pub AreLedTo : List Slot → Index → Blocks → Type 0
AreLedTo slots index blocks = (c : List ℕ) (place : ℕ) → position_of blocks c ≡ Some place → Comes slots (place_after index c) (key_hash c) place

-- only the tree leads the look-up of a number to this position
abbrev pub ComesOnlyAfter : List Slot → ℕ → ℕ → Type 0
ComesOnlyAfter slots hash place = (behind : Option ℕ) → Comes slots behind hash place → behind ≡ Some place

-- the trees of two indexes have the same positions
abbrev pub SameAfter : Index → Index → Type 0
SameAfter old new = (c : List ℕ) → place_after new c ≡ place_after old c

-- the tree has this position for a CID, and what it had for each other
abbrev pub PutsAfter : Index → Index → List ℕ → ℕ → Type 0
PutsAfter old new cid place = (c : List ℕ) → place_after new c ≡ (if bytes_eq cid c then Some place else place_after old c)

-- what the tree has for a CID is its position
abbrev pub HasTruePlaces : Index → Blocks → Type 0
HasTruePlaces index blocks = (c : List ℕ) (place : ℕ) → place_after index c ≡ Some place → position_of blocks c ≡ Some place

-- an index of pairs with distinct CIDs: the look-up of each comes to its position, and the tree has no wrong one
pub record IsIndexed (index : Index) (blocks : Blocks) : Type 0 where
  pub distinct : HasDistinctCids blocks
  pub leads : AreLedTo index.slots.items index blocks
  pub true_after : HasTruePlaces index blocks

-- the same of these pairs with one more, under this CID
abbrev pub IsIndexedWith : Index → Blocks → List ℕ → Type 0
IsIndexedWith index blocks cid = (block : List ℕ) → IsIndexed index (blocks ++ (cid, block) ∷ [])

-- what threads return for an index of these pairs: none, or one of all of them
abbrev pub MayIndex : Blocks → Result (Option Index) AllocError → Type 0
MayIndex blocks result = IfOk result (λ found. IfSome found (λ index. IsIndexed index blocks))

-- a slot is the first free one of the look-up of a number
abbrev pub IsFreeSlot : List Slot → ℕ → ℕ → Type 0
IsFreeSlot slots hash slot = (n : ℕ) × (slot ≡ first_of slots hash + n) × IsFirstFree (window_of slots hash) n

-- the position of a number goes to the tree
abbrev pub GoesAfter : List Slot → ℕ → ℕ → Type 0
GoesAfter slots hash place = IsLarge place ⊎ AreTaken (window_of slots hash)

-- what a search for a slot for it returns
abbrev pub FindsFree : List Slot → ℕ → ℕ → Option ℕ → Type 0
FindsFree slots hash place (Some slot) = (place < 2 ^ 32 - 1) × IsFreeSlot slots hash slot
FindsFree slots hash place None = GoesAfter slots hash place

-- where the table has a CID, or where the position after the blocks goes; if that is the tree, the tree has the CID's position
-- if there is one
abbrev pub IsLookup : Index → Blocks → List ℕ → Lookup → Type 0
IsLookup index blocks c (Present place) = position_of blocks c ≡ Some place
IsLookup index blocks c (Vacant slot) = (position_of blocks c ≡ None) × FindsFree index.slots.items (key_hash c) (length blocks) (Some slot)
IsLookup index blocks c Overflow = GoesAfter index.slots.items (key_hash c) (length blocks) × ((place : ℕ) → position_of blocks c ≡ Some place → place_after index c ≡ Some place)

-- a pair, if there is one, has this CID
abbrev pub is_cid_of : Option (List ℕ × List ℕ) → List ℕ → Bool
is_cid_of None c = false
is_cid_of (Some e) c = bytes_eq e.0 c

-- the pair at a position has this CID
abbrev pub is_cid_at : Blocks → ℕ → List ℕ → Bool
is_cid_at blocks place c = is_cid_of (slice_get blocks place) c

-- what a look-up of a CID and its fingerprint finds in these slots: the first position in them whose pair has the CID, if no
-- free slot is before it
abbrev pub probe_of : Blocks → List Slot → ℕ → List ℕ → Probe
probe_of blocks [] tag c = Full
probe_of blocks (slot ∷ slots) tag c =
    if end_of slot == 0 then Free else (if slot.tag == tag && is_cid_at blocks (end_of slot - 1) c then At (end_of slot - 1) else probe_of blocks slots tag c)

-- what the look-up of a CID finds in the slots of a table
abbrev pub probe_in : List Slot → Blocks → List ℕ → Probe
probe_in slots blocks c = probe_of blocks (window_of slots (key_hash c)) (fingerprint (key_hash c)) c

-- the look-up of each pair from one position up to another comes to its position, or finds no slot free, and these have its
-- position
abbrev pub AreSeen : List Slot → Blocks → ℕ → ℕ → List ℕ → Type 0
AreSeen slots blocks from to places = (k : ℕ) (e : List ℕ × List ℕ) → from ≤ k → k < to → slice_get blocks k ≡ Some e → (probe_in slots blocks e.0 ≡ At k) ⊎ ((probe_in slots blocks e.0 ≡ Full) × Contains places k)

-- what the tree has for a CID is the position of a pair with it
abbrev pub IsTrueAfter : Index → Blocks → Type 0
IsTrueAfter index blocks = (c : List ℕ) (p : ℕ) → place_after index c ≡ Some p → is_cid_at blocks p c ≡ true

-- the tree of an index stays true
abbrev pub StaysTrueAfter : Index → Index → Blocks → Type 0
StaysTrueAfter old new blocks = IsTrueAfter old blocks → IsTrueAfter new blocks

-- the tree has the position of the pair there
abbrev pub IsAfter : Index → Blocks → ℕ → Type 0
IsAfter index blocks p = (e : List ℕ × List ℕ) → slice_get blocks p ≡ Some e → place_after index e.0 ≡ Some p

-- the tree has these positions, each for the CID of the pair there
abbrev pub AreAfter : Index → Blocks → List ℕ → Type 0
AreAfter index blocks places = All (λ p. IsAfter index blocks p) places

-- the tree of an index has whatever that of another has
abbrev pub HasAllOf : Index → Index → Type 0
HasAllOf later index = (c : List ℕ) (p : ℕ) → place_after index c ≡ Some p → place_after later c ≡ Some p

-- what was found in the share of the pairs with this number, where each share has so many
abbrev pub ShareSeen : List Slot → Blocks → ℕ → ℕ → Result (Option (Vec ℕ)) AllocError → Type 0
ShareSeen slots blocks share number result =
    IfOk result (λ found. IfSome found (λ places. AreSeen slots blocks (number * share) (number * share + share) places.items))

-- what was found in the shares of the pairs, each of so many
abbrev pub AllSeen : List Slot → Blocks → ℕ → List (Result (Option (Vec ℕ)) AllocError) → Type 0
AllSeen slots blocks share shares = (n : ℕ) (d : Result (Option (Vec ℕ)) AllocError) → n < length shares → ShareSeen slots blocks share n (slice_index_or shares n d)
