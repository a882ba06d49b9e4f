-- What a walk has expanded: positions of blocks and CIDs without one, each with the residual there.
use Rattle.std.specs.Prelude.{◌≡◌, ℕ, Bool, true, false, ◌||◌, ◌&&◌, List, Option, Some, None, Result, IfOk, if◌then◌else◌, nat_eq, bytes_eq}
use Rattle.std.specs.declared.alloc.AllocError.{AllocError}
use Rattle.std.specs.declared.cmp.Ordering.{Ordering}
use Rattle.std.specs.Ordering.{nat_cmp, ordering_then}
use Rattle.std.specs.Cmp.Lexicographic.{slice_cmp}
use Rattle.std.specs.BTreeMap.{get}
use Rattle.std.specs.BTreeSet.{BTreeSet, contains}
use Rattle.ix_selector.specs.Residual.{Place}
use Rattle.ix_selector.specs.Behind.{same_residual, residual_order}
use Rattle.ix_walk.specs.declared.visited_set.VisitedSet.{VisitedSet}
use Rattle.ix_store.specs.PlaceSet.{contains_place}
use Rattle.ix_store.specs.Store.{Blocks, position_of}
use Rattle.ix_walk.specs.Walking.{Going, is_barren}

-- a position is among these, if there are any
abbrev pub is_in : ℕ → Option (BTreeSet ℕ) → Bool
is_in n None = false
is_in n (Some places) = contains nat_cmp places n

-- the order of CIDs with residuals
abbrev pub cid_order : List ℕ × List Place → List ℕ × List Place → Ordering
cid_order x y = ordering_then (slice_cmp nat_cmp x.0 y.0) (residual_order x.1 y.1)

-- a CID, whose block has this position if it has one, was expanded with this residual
abbrev pub has_expanded : VisitedSet → Option ℕ → List ℕ → List Place → Bool
has_expanded g None c places = contains cid_order g.inline (c, places)
has_expanded g (Some n) c places = if same_residual g.root_residual places then contains_place g.places n else is_in n (get residual_order g.blocks places)

-- the same CID with an equal residual
abbrev pub is_same_going : Option ℕ → List ℕ → List Place → Option ℕ → List ℕ → List Place → Bool
is_same_going None c places None d others = bytes_eq c d && same_residual places others
is_same_going None c places (Some m) d others = false
is_same_going (Some n) c places None d others = false
is_same_going (Some n) c places (Some m) d others = nat_eq n m && same_residual places others

-- it was expanded for the first time, and is then recorded; or it was expanded before, and the same is recorded
abbrev pub IsNoted : VisitedSet → VisitedSet → Option ℕ → List ℕ → List Place → Bool → Type 0
IsNoted old new block c places true =
    (has_expanded old block c places ≡ false) × ((b : Option ℕ) (d : List ℕ) (others : List Place) → has_expanded new b d others ≡ (is_same_going block c places b d others || has_expanded old b d others))
IsNoted old new block c places false = (has_expanded old block c places ≡ true) × ((b : Option ℕ) (d : List ℕ) (others : List Place) → has_expanded new b d others ≡ has_expanded old b d others)

-- the same of a block at a position, with the residual of a root
abbrev pub IsNotedWhole : VisitedSet → VisitedSet → ℕ → Result Bool AllocError → Type 0
IsNotedWhole old new place result =
    (c : List ℕ) (places : List Place) → same_residual old.root_residual places ≡ true → IfOk result (IsNoted old new (Some place) c places)

-- the same of a block at a position, whatever its CID
abbrev pub IsNotedBlock : VisitedSet → VisitedSet → ℕ → List Place → Result Bool AllocError → Type 0
IsNotedBlock old new place places result = (c : List ℕ) → IfOk result (IsNoted old new (Some place) c places)

-- nothing was expanded
abbrev pub HasExpandedNothing : VisitedSet → Type 0
HasExpandedNothing g = (block : Option ℕ) (c : List ℕ) (places : List Place) → has_expanded g block c places ≡ false

-- in a store: whether a CID isn't to be expanded with a residual: nothing below it is visited, or it was expanded
abbrev pub expanded_of : Blocks → VisitedSet → Going
expanded_of store g c places = is_barren store c || has_expanded g (position_of store c) c places

-- what a walk keeps of it, if it expands CIDs once
abbrev pub going_of : Blocks → Option VisitedSet → Option Going
going_of store None = None
going_of store (Some g) = Some (expanded_of store g)
