-- What a walk over a table has still to visit.
use Rattle.std.specs.Prelude.{◌≡◌, ℕ, ◌+◌, ◌<◌, ◌≤◌, List, [], ◌∷◌, ◌++◌, length, map, reverse, slice_range, Option, Some, None, IfSome, IfNone, option_map, All}
use Rattle.ix_walk.specs.declared.subtree.PendingLink.{PendingLink}
use Rattle.ix_walk.specs.declared.visit.Visit.{Visit}
use Rattle.ix_walk.specs.Visits.{visit_of}
use Rattle.ix_walk.specs.VisitedSet.{going_of}
use Rattle.ix_walk.specs.Walking.{waiting, arrival, data_inside, expanded_after, links_inside, root_link, found_links}
use Rattle.ix_prefetch.specs.declared.link.LinkAt.TheVariants.{Stored, Written}
use Rattle.ix_prefetch.specs.declared.state.ListLeft.{ListLeft}
use Rattle.ix_prefetch.specs.declared.state.Waits.{Waits}
use Rattle.ix_prefetch.specs.declared.state.Waits.TheVariants.{List as Listing, Link as Waiting}
use Rattle.ix_prefetch.specs.declared.state.Next.{Next}
use Rattle.ix_prefetch.specs.declared.state.Next.TheVariants.{Listed, Root, Found}
use Rattle.ix_prefetch.specs.declared.state.TableState.{TableState}
use Rattle.ix_prefetch.specs.Growing.{at_depth}
use Rattle.ix_prefetch.specs.Link.{cid_at, IsHashedAt}
use Rattle.ix_prefetch.specs.Expansions.{ExpansionTable, residual_in}

-- a list without its first link
abbrev pub rest_of : ListLeft → ListLeft
rest_of l = record { from = l.from + 1; to = l.to; depth = l.depth }

-- the links that are left of a list
abbrev pub list_links : ExpansionTable → ListLeft → List PendingLink
list_links t l = map (at_depth l.depth) (slice_range t.links l.from l.to)

-- those of what waits
abbrev pub links_of : ExpansionTable → Waits → List PendingLink
links_of t (Listing l) = list_links t l
links_of t (Waiting f) = f ∷ []

abbrev pub all_links_of : ExpansionTable → List Waits → List PendingLink
all_links_of t [] = []
all_links_of t (w ∷ ws) = links_of t w ++ all_links_of t ws

-- those of the list that a walk is in, and after them those that wait
abbrev pub links_in : ExpansionTable → ListLeft → List Waits → List PendingLink
links_in t at waits = list_links t at ++ all_links_of t (reverse waits)

-- all links to visit: the roots come last
abbrev pub links_left : ExpansionTable → TableState → List PendingLink
links_left t s = links_in t s.at s.waiting.items ++ map (root_link t.job.selector) s.roots.now

-- what waits is in the table, and something is left of it
abbrev pub IsWaiting : ExpansionTable → Waits → Type 0
IsWaiting t (Listing l) = (l.from < l.to) × (l.to ≤ length t.links)
IsWaiting t (Waiting f) = Unit {0}

-- what a walk keeps is in the table
pub record IsWithin (t : ExpansionTable) (s : TableState) : Type 0 where
  pub list : s.at.to ≤ length t.links
  pub waits : All (IsWaiting t) s.waiting.items

-- the link that is visited next
abbrev pub next_pending : ExpansionTable → Next → PendingLink
next_pending t (Listed (Stored residual place pair) depth) = waiting (residual_in t residual) depth (cid_at t.store place)
next_pending t (Listed (Written residual cid) depth) = waiting (residual_in t residual) depth cid
next_pending t (Root c) = root_link t.job.selector c.now
next_pending t (Found f) = f

-- its residual and its block are there
abbrev pub IsNext : ExpansionTable → Next → Type 0
IsNext t (Listed (Stored residual place pair) depth) = (residual < length t.residuals) × IsHashedAt t.store place
IsNext t (Listed (Written residual cid) depth) = residual < length t.residuals
IsNext t (Root c) = Unit {0}
IsNext t (Found f) = Unit {0}

-- the next link to visit, or there is none
pub record IsNextLink (t : ExpansionTable) (old : TableState) (o : Option Next) (new : TableState) : Type 0 where
  pub links : links_left t old ≡ found_links (option_map (next_pending t) o) ++ links_left t new
  pub next : IfSome o (IsNext t)
  pub ends : IfNone o (links_left t new ≡ [])
  pub within : IsWithin t new
  pub expanded : new.expanded ≡ old.expanded

-- these links come before those that wait
pub record PutsBefore (t : ExpansionTable) (links : List PendingLink) (old new : TableState) : Type 0 where
  pub before : links_in t new.at new.waiting.items ≡ links ++ links_in t old.at old.waiting.items
  pub within : IsWithin t new
  pub expanded : new.expanded ≡ old.expanded
  pub roots : new.roots.now ≡ old.roots.now

-- the same of what is left of the list that a walk is in, whatever table it is of: then it is in an empty one
abbrev pub PutsAside : TableState → TableState → Type 0
PutsAside old new = (t : ExpansionTable) → IsWithin t old → PutsBefore t [] old new × (list_links t new.at ≡ [])

-- the same of a list of the table
abbrev pub PutsList : ListLeft → TableState → TableState → Type 0
PutsList list old new = (t : ExpansionTable) → IsWithin t old → list.to ≤ length t.links → list.from ≤ list.to → PutsBefore t (list_links t list) old new

-- the same of links
abbrev pub PutsLinks : List PendingLink → TableState → TableState → Type 0
PutsLinks links old new = (t : ExpansionTable) → IsWithin t old → PutsBefore t links old new

-- the first link of a list
abbrev pub IsFirst : ExpansionTable → ListLeft → Next → Type 0
IsFirst t list next = (list_links t list ≡ next_pending t next ∷ list_links t (rest_of list)) × IsNext t next

-- the first root, or there is none
abbrev pub IsNextRoot : List (List ℕ) → Option Next → List (List ℕ) → Type 0
IsNextRoot roots None rest = (roots ≡ []) × (rest ≡ [])
IsNextRoot roots (Some (Root c)) rest = roots ≡ c.now ∷ rest
IsNextRoot roots (Some next) rest = ⊥

-- the visit of a link is returned, and the links below it come before those that wait
pub record IsVisited (t : ExpansionTable) (number seq : ℕ) (f : PendingLink) (old : TableState) (v : Visit) (new : TableState) : Type 0 where
  pub visit : v ≡ visit_of t.store number seq (arrival f.depth f.cid)
  pub expanded : going_of t.store new.expanded ≡ expanded_after (data_inside t.store (going_of t.store old.expanded) f) f (going_of t.store old.expanded)
  pub links : links_in t new.at new.waiting.items ≡ links_inside f.residual (f.depth + 1) (data_inside t.store (going_of t.store old.expanded) f) ++ links_in t old.at old.waiting.items
  pub within : IsWithin t new
  pub roots : new.roots.now ≡ old.roots.now
