-- What traversing a block does.
use Rattle.std.specs.Prelude.{◌≡◌, ℕ, ◌+◌, ◌<◌, ◌≤◌, Bool, true, false, List, [], ◌∷◌, ◌++◌, Option, Some, None, IfNone, Ok}
use Rattle.ix_cbor.specs.declared.front.Front.{Front}
use Rattle.ix_cbor.specs.declared.front.Front.TheVariants as fronts
use Rattle.ix_cbor.specs.Data.{Data}
use Rattle.ix_cbor.specs.Reading.{item_at, own_at, key_at}
use Rattle.ix_cbor.specs.Fronts.{own_of_front, HasCid}
use Rattle.ix_store.specs.Cursor.{EndsWith, LinkBefore}
use Rattle.ix_selector.specs.Enters.{Step}
use Rattle.ix_selector.specs.Residual.{Place}
use Rattle.ix_walk.specs.declared.subtree.Children.{Children}
use Rattle.ix_walk.specs.declared.subtree.Children.TheVariants.{Members, Values}
use Rattle.ix_walk.specs.declared.subtree.Child.{Child}
use Rattle.ix_walk.specs.declared.subtree.Child.TheVariants.{Link, Open}
use Rattle.ix_walk.specs.declared.subtree.OpenNode.{OpenNode}
use Rattle.ix_walk.specs.declared.subtree.Frontier.{Frontier}
use Rattle.ix_walk.specs.declared.subtree.PendingLink.{PendingLink}
use Rattle.ix_selector.specs.Behind.{residual_after}
use Rattle.ix_walk.specs.Walking.{when_entered, links_below, Part, part_links, part_weight, Subtree, subtree_links, all_links, found_links, weight_of, all_weight, part_at, opened, frontier_stands, subtrees}

-- an item can be read here
abbrev pub IsItem : List ℕ → Type 0
IsItem b = (x : Data × List ℕ) × (item_at 512 b ≡ Ok x)

-- An item can be read here; this is its front, and with these bytes, which are after the front, those here end. A link's front
-- has a CID, which is right before them.
pub record HasFront (at : List ℕ) (front : Front) (behind : List ℕ) : Type 0 where
  pub item : IsItem at
  pub exact : own_at at ≡ Ok (own_of_front front, behind)
  pub cid : HasCid front
  pub end : EndsWith at behind
  pub link : LinkBefore at front behind

-- the bytes after the item at this position
abbrev pub IsAfterItem : List ℕ → List ℕ → Type 0
IsAfterItem at behind = (d : Data) (rest : List ℕ) → item_at 512 at ≡ Ok (d, rest) → behind ≡ rest

-- a key can be read here
abbrev pub IsKey : List ℕ → Type 0
IsKey b = (k : List ℕ × List ℕ) × (key_at None b ≡ Ok k)

-- what is left of an open list or map can be read here
abbrev pub IsPart : Children → List ℕ → Type 0
IsPart children b = (x : Part × List ℕ) × (part_at children b ≡ Some x)

-- an item with this front may contain a link
abbrev pub may_hold_links : Front → Bool
may_hold_links (fronts.Link c) = true
may_hold_links (fronts.List n) = true
may_hold_links (fronts.Map n) = true
may_hold_links fronts.Null = false
may_hold_links (fronts.Bool b) = false
may_hold_links (fronts.Int n) = false
may_hold_links (fronts.Bits64 bits) = false
may_hold_links (fronts.Bytes b) = false
may_hold_links (fronts.Text t) = false

-- what an item with this front is for a walk that enters it, if it may contain a link
abbrev pub entered_by : List Place → Front → ℕ → Option Child
entered_by places (fronts.Link c) depth = Some (Link (record { residual = places; cid = c.now; depth = depth }))
entered_by places (fronts.List n) depth = Some (Open (record { residual = places; children = Members n n; depth = depth; resume_at = None }))
entered_by places (fronts.Map n) depth = Some (Open (record { residual = places; children = Values n; depth = depth; resume_at = None }))
entered_by places fronts.Null depth = None
entered_by places (fronts.Bool b) depth = None
entered_by places (fronts.Int n) depth = None
entered_by places (fronts.Bits64 bits) depth = None
entered_by places (fronts.Bytes b) depth = None
entered_by places (fronts.Text t) depth = None

-- a subtree has these links, and isn't heavier than that
pub record IsSubtree (links : List PendingLink) (weight : ℕ) (s : Subtree) : Type 0 where
  pub reaches : subtree_links s ≡ links
  pub light : part_weight s.part ≤ weight

-- What was entered has these links, and ends before the rest, where the walk is now at these bytes. If nothing was entered,
-- there are none.
abbrev pub Enters : List PendingLink → ℕ → List ℕ → Option Child → List ℕ → Type 0
Enters links weight rest None at = (at ≡ rest) × (links ≡ [])
Enters links weight rest (Some (Link f)) at = (at ≡ rest) × (links ≡ f ∷ [])
Enters links weight rest (Some (Open o)) at = (o.resume_at ≡ None) × (part : Part) × (part_at o.children at ≡ Some (part, rest)) × IsSubtree links weight (opened o part)

-- the links in a child after a step, if it is entered
abbrev pub child_links : List Place → Step → ℕ → Data → List PendingLink
child_links places t depth d = when_entered (residual_after places t) (links_below (residual_after places t) depth d)

-- this was entered of the item at some bytes
abbrev pub IsNode : List Place → List ℕ → ℕ → Option Child → List ℕ → Type 0
IsNode places at depth o now = (d : Data) (rest : List ℕ) → item_at 512 at ≡ Ok (d, rest) → Enters (links_below places depth d) (weight_of d) rest o now

-- the same of a child after a step
abbrev pub IsChild : List Place → Step → List ℕ → ℕ → Option Child → List ℕ → Type 0
IsChild places t at depth o now = (d : Data) (rest : List ℕ) → item_at 512 at ≡ Ok (d, rest) → Enters (child_links places t depth d) (weight_of d) rest o now

-- A part is traversed up to a child that was entered: what is after that child, whose bytes end before the others.
pub record IsExpanded (places : List Place) (depth : ℕ) (part : Part) (rest : List ℕ) (e : Child) (children : Children) (now : List ℕ) : Type 0 where
  pub first : List PendingLink
  pub weight : ℕ
  pub middle : List ℕ
  pub others : Part
  pub entered : Enters first weight middle (Some e) now
  pub behind : part_at children middle ≡ Some (others, rest)
  pub links : part_links places depth part ≡ first ++ part_links places depth others
  pub lighter : weight + part_weight others < part_weight part

-- An open list or map is traversed up to its next child that is entered, or to its end.
abbrev pub IsNext : List Place → ℕ → Children → List ℕ → Option Child → Children → List ℕ → Type 0
IsNext places depth old at None new now = (x : Part × List ℕ) → part_at old at ≡ Some x → (now ≡ x.1) × (part_links places depth x.0 ≡ [])
IsNext places depth old at (Some e) new now = (x : Part × List ℕ) → part_at old at ≡ Some x → IsExpanded places depth x.0 x.1 e new now

-- the same of a list with so many elements, of which so many are left
abbrev pub IsNextMember : List Place → ℕ → ℕ → ℕ → List ℕ → Option Child → ℕ → List ℕ → Type 0
IsNextMember places depth count left at o more now = IsNext places depth (Members count left) at o (Members count more) now

-- the same of a map, of which so many values are left
abbrev pub IsNextValue : List Place → ℕ → ℕ → List ℕ → Option Child → ℕ → List ℕ → Type 0
IsNextValue places depth left at o more now = IsNext places depth (Values left) at o (Values more) now

-- the same of what is open
abbrev pub IsNextChild : OpenNode → List ℕ → Option Child → OpenNode → List ℕ → Type 0
IsNextChild old at o new now = IsNext old.residual old.depth old.children at o new.children now

-- what has no link is dropped
abbrev pub Leaves : Frontier → Frontier → Type 0
Leaves old new = (ss : List Subtree) → frontier_stands old ≡ Some ss → (more : List Subtree) × (frontier_stands new ≡ Some more) × (all_links ss ≡ all_links more)

-- the first link of what is left, or there is none
pub record IsFound (old : List Subtree) (o : Option PendingLink) (new : List Subtree) : Type 0 where
  pub links : all_links old ≡ found_links o ++ all_links new
  pub ends : IfNone o (new ≡ [])

-- the first link of what is left of a frontier
abbrev pub Finds : Frontier → Option PendingLink → Frontier → Type 0
Finds old o new = (ss : List Subtree) → frontier_stands old ≡ Some ss → (more : List Subtree) × (frontier_stands new ≡ Some more) × IsFound ss o more

-- how many steps a walk can take before it comes to a link
abbrev pub trail_weight : Frontier → ℕ
trail_weight t = all_weight (subtrees t)
