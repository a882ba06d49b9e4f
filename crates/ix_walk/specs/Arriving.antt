-- What visiting a link does.
use Rattle.std.specs.Prelude.{◌≡◌, ℕ, ◌+◌, Bool, false, List, [], ◌++◌, if◌then◌else◌, Option, Some, None, IfNone, Result, Ok, Err}
use Rattle.ix_cbor.specs.Data.{Data}
use Rattle.ix_cbor.specs.Reading.{decoded}
use Rattle.ix_selector.specs.Pattern.{Pattern}
use Rattle.ix_selector.specs.Residual.{Place}
use Rattle.ix_walk.specs.declared.visited_set.VisitedSet.{VisitedSet}
use Rattle.ix_walk.specs.declared.state.WalkState.{WalkState}
use Rattle.ix_walk.specs.declared.subtree.PendingLink.{PendingLink}
use Rattle.ix_walk.specs.declared.subtree.Frontier.{Frontier}
use Rattle.ix_walk.specs.declared.visit.Visit.{Visit}
use Rattle.ix_walk.specs.declared.fault.WalkStop.{WalkStop}
use Rattle.ix_verdict.specs.Verdict.{has_codec}
use Rattle.ix_store.specs.Store.{Blocks, position_of, bytes_of, value_of}
use Rattle.ix_walk.specs.JobMeaning.{JobMeaning}
use Rattle.ix_walk.specs.Visits.{is_malformed, visit_of}
use Rattle.ix_walk.specs.VisitedSet.{going_of}
use Rattle.ix_walk.specs.Walking.{arrival, waiting, Going, data_inside, expanded_after, links_inside, Subtree, all_links, found_links, frontier_stands, subtrees, links_left, walk_left, NoDeeper, IsWalk}
use Rattle.ix_walk.specs.WalkLeft.{WalkLeft, GivesNext, nothing_left}

-- the bytes that a CID names if its codec is known
abbrev pub known_bytes : Blocks → List ℕ → Option (List ℕ)
known_bytes store c = if has_codec c then bytes_of store c else None

-- this is the position of the block of a CID, if it is there
abbrev pub IsPositionOf : Blocks → List ℕ → Option ℕ → Type 0
IsPositionOf store c block = block ≡ position_of store c

-- the bytes spell the data of a CID, or there are none
abbrev pub IsValue : Option Data → Option (List ℕ) → Type 0
IsValue value None = value ≡ None
IsValue value (Some b) = (d : Data) × (value ≡ Some d) × (decoded b ≡ Ok d)

-- the bytes of a CID that a walk expands, and whether it is malformed
abbrev pub IsReading : Blocks → List ℕ → Option (List ℕ) → Bool → Type 0
IsReading store c block malformed = IsValue (value_of store c) block × (malformed ≡ is_malformed store c)

-- the bytes are those of the data that a walk expands at a link, and it records that it has
pub record Goes (store : Blocks) (f : PendingLink) (had : Option Going) (block : Option (List ℕ)) (has : Option Going) : Type 0 where
  pub inside : IsValue (data_inside store had f) block
  pub expanded : has ≡ expanded_after (data_inside store had f) f had

-- the same for a CID with this residual, at any depth
abbrev pub GoesInto : Blocks → List Place → List ℕ → Option VisitedSet → Option (List ℕ) → Option VisitedSet → Type 0
GoesInto store places cid old block new =
    (depth : ℕ) → Goes store (waiting places depth cid) (going_of store old) block (going_of store new)

-- the links in a block come before others, if there is a block
abbrev pub Roots : List Place → Option (List ℕ) → ℕ → Frontier → Frontier → Type 0
Roots places block depth old new =
    (value : Option Data) → IsValue value block → (ss : List Subtree) → frontier_stands old ≡ Some ss
    → (more : List Subtree) × (frontier_stands new ≡ Some more) × (all_links more ≡ links_inside places depth value ++ all_links ss)

-- the visit of a link is returned, and the links below it come before the others
pub record IsArrived (store : Blocks) (number seq : ℕ) (f : PendingLink) (had : Option Going) (old : List Subtree) (v : Visit) (has : Option Going) (new : List Subtree) : Type 0 where
  pub visit : v ≡ visit_of store number seq (arrival f.depth f.cid)
  pub expanded : has ≡ expanded_after (data_inside store had f) f had
  pub links : all_links new ≡ links_inside f.residual (f.depth + 1) (data_inside store had f) ++ all_links old

-- the same of the frontiers of a walk, before and after
abbrev pub ArrivesBy : Blocks → ℕ → ℕ → PendingLink → Option Going → Frontier → Visit → Option Going → Frontier → Type 0
ArrivesBy store number seq f had old v has new =
    (ss : List Subtree) → frontier_stands old ≡ Some ss → (more : List Subtree) × (frontier_stands new ≡ Some more) × IsArrived store number seq f had ss v has more

-- the same of what a walk keeps, before and after: what it has expanded, and its frontier
abbrev pub Arrives : Blocks → ℕ → ℕ → PendingLink → Visit → WalkState → WalkState → Type 0
Arrives store number seq f v old new = ArrivesBy store number seq f (going_of store old.expanded) old.frontier v (going_of store new.expanded) new.frontier

-- the next link of what is left, or the next root if nothing is, or there is neither
pub record IsNextArrival (selector : Pattern) (old : List Subtree) (roots : List (List ℕ)) (o : Option PendingLink) (new : List Subtree) (rest : List (List ℕ)) : Type 0 where
  pub links : links_left selector old roots ≡ found_links o ++ links_left selector new rest
  pub deep : (bound : ℕ) → NoDeeper bound (all_links old) → NoDeeper bound (found_links o ++ all_links new)
  pub ends : IfNone o ((new ≡ []) × (rest ≡ []))

abbrev pub FindsNext : Pattern → Frontier → List (List ℕ) → Option PendingLink → Frontier → List (List ℕ) → Type 0
FindsNext selector old roots o new rest =
    (ss : List Subtree) → frontier_stands old ≡ Some ss → (more : List Subtree) × (frontier_stands new ≡ Some more) × IsNextArrival selector ss roots o more rest

-- what is left of a walk that has not ended
abbrev pub trail_left : Blocks → ℕ → ℕ → ℕ → Option Going → Pattern → Frontier → List (List ℕ) → WalkLeft
trail_left store number limit given expanded selector t roots = walk_left store number limit given expanded (links_left selector (subtrees t) roots) false

-- what is left of the walk of the job with this number, which has returned so many visits and keeps this, or has ended
abbrev pub left_of_walk : Blocks → ℕ → JobMeaning → ℕ → WalkState → Bool → WalkLeft
left_of_walk store number job given state ended =
    walk_left store number job.limit given (going_of store state.expanded) (links_left job.selector (subtrees state.frontier) state.roots.now) ended

-- what is taken of it, and what is then left
abbrev pub Takes : Blocks → ℕ → ℕ → ℕ → Pattern → Option Going → Frontier → List (List ℕ) → Result (Option Visit) WalkStop → Option Going → Frontier → List (List ℕ) → Type 0
Takes store number limit given selector had old roots (Ok (Some v)) has new rest =
    GivesNext (trail_left store number limit given had selector old roots) (Some (Ok v)) (trail_left store number limit (given + 1) has selector new rest) × IsWalk limit (given + 1) new
Takes store number limit given selector had old roots (Ok None) has new rest = GivesNext (trail_left store number limit given had selector old roots) None nothing_left
Takes store number limit given selector had old roots (Err stop) has new rest = GivesNext (trail_left store number limit given had selector old roots) (Some (Err stop)) nothing_left

-- what is taken of the walk of the job with this number, which has given so many visits, and what it then keeps
abbrev pub TakesNext : Blocks → JobMeaning → ℕ → ℕ → WalkState → Result (Option Visit) WalkStop → WalkState → Type 0
TakesNext store job number given old result new =
    Takes store number job.limit given job.selector (going_of store old.expanded) old.frontier old.roots.now result (going_of store new.expanded) new.frontier new.roots.now
