-- What a walk is about to return, by what it keeps.
use Rattle.std.specs.Prelude.{◌≡◌, ℕ, zero, suc, ◌+◌, ◌-◌, ◌<◌, ◌≤◌, Bool, true, false, List, [], ◌∷◌, ◌++◌, length, map, reverse, take, Option, Some, None, option_map, option_and_then, Ok, not, nat_le, nat_lt, ◌==◌, ◌&&◌, ◌||◌, bytes_eq, if◌then◌else◌}
use Rattle.std.specs.Result.{result_ok}
use Rattle.ix_cbor.specs.Data as nodes
use Rattle.ix_cbor.specs.Data.{Data, Items, Entries, null, boolean, integer, float, bytes, text, list, link, no_items, item, no_entries, entry}
use Rattle.ix_cbor.specs.Reading.{◌>>=◌, item_at, items_at, entries_at}
use Rattle.ix_selector.specs.Enters.{key, nth}
use Rattle.ix_selector.specs.Pattern.{Pattern}
use Rattle.ix_selector.specs.Residual.{Place}
use Rattle.ix_selector.specs.Behind.{residual_of, residual_after, same_residual}
use Rattle.ix_store.specs.Cursor.{resumed}
use Rattle.ix_walk.specs.declared.subtree.Children.{Children}
use Rattle.ix_walk.specs.declared.subtree.Children.TheVariants.{Members, Values}
use Rattle.ix_walk.specs.declared.subtree.OpenNode.{OpenNode}
use Rattle.ix_walk.specs.declared.subtree.Frontier.{Frontier}
use Rattle.ix_walk.specs.declared.subtree.PendingLink.{PendingLink}
use Rattle.ix_store.specs.Store.{Blocks, bytes_of, value_of}
use Rattle.ix_walk.specs.Arrivals.{Arrival}
use Rattle.ix_walk.specs.Once.{bytes_match, sound_value}
use Rattle.ix_walk.specs.Visits.{visits_from}
use Rattle.ix_walk.specs.WalkLeft.{WalkLeft, nothing_left}

-- A visit with no root and no path, which a `Visit` doesn't have.
abbrev pub arrival : ℕ → List ℕ → Arrival
arrival depth c = record { root = 0; path = []; depth = depth; cid = c }

-- a link to visit: the residual there, its CID, and how many links were followed
abbrev pub waiting : List Place → ℕ → List ℕ → PendingLink
waiting places depth c = record { residual = places; cid = c; depth = depth }

-- with an empty residual nothing is entered
abbrev pub when_entered : List Place → List PendingLink → List PendingLink
when_entered [] links = []
when_entered (x ∷ xs) links = links

-- the links below a node at this depth, in preorder, where these places are left of the selector
abbrev mutual
  -- the links below a node at this depth, in preorder, with this residual
  pub links_below : List Place → ℕ → Data → List PendingLink
  links_below places depth null = []
  links_below places depth (boolean b) = []
  links_below places depth (integer n) = []
  links_below places depth (float bits) = []
  links_below places depth (bytes b) = []
  links_below places depth (text t) = []
  links_below places depth (list ds) = links_in_items places depth 0 ds
  links_below places depth (nodes.map es) = links_in_entries places depth es
  links_below places depth (link c) = waiting places depth c ∷ []

  pub links_in_items : List Place → ℕ → ℕ → Items → List PendingLink
  links_in_items places depth n no_items = []
  links_in_items places depth n (item d ds) =
      when_entered (residual_after places (nth n)) (links_below (residual_after places (nth n)) depth d) ++ links_in_items places depth (n + 1) ds

  pub links_in_entries : List Place → ℕ → Entries → List PendingLink
  links_in_entries places depth no_entries = []
  links_in_entries places depth (entry k d es) =
      when_entered (residual_after places (key k)) (links_below (residual_after places (key k)) depth d) ++ links_in_entries places depth es

-- those in the data of a CID, if there are any
abbrev pub links_inside : List Place → ℕ → Option Data → List PendingLink
links_inside places depth None = []
links_inside places depth (Some d) = links_below places depth d

-- these bytes begin with this one
abbrev pub begins_with : ℕ → List ℕ → Bool
begins_with n [] = false
begins_with n (x ∷ xs) = x == n

-- a link may be in these bytes: the head of its tag is in them, 0xd8 0x2a, or a number that is no byte
abbrev pub has_tag : List ℕ → Bool
has_tag [] = false
has_tag (x ∷ xs) = nat_le 256 x || ((x == 0xd8 && begins_with 0x2a xs) || has_tag xs)

-- the bytes after the first 0xd8 in others, with which the head of a tag begins
pub record IsBehindFirst (b behind : List ℕ) : Type 0 where
  pub fewer : length behind < length b
  pub same : has_tag b ≡ (begins_with 0x2a behind || has_tag behind)

-- whether a link may be in the bytes, if there are any
abbrev pub is_tagged : Option (List ℕ) → Bool
is_tagged None = false
is_tagged (Some b) = has_tag b

-- nothing below a CID is visited: its block isn't sound, or no link is in it
abbrev pub is_barren : Blocks → List ℕ → Bool
is_barren store c = not (bytes_match store c && is_tagged (bytes_of store c))

-- what was expanded: CIDs, each with the residual there
abbrev pub Going : Type 0
Going = List ℕ → List Place → Bool

-- nothing was expanded
abbrev pub nothing_expanded : Going
nothing_expanded c places = false

-- the CIDs below which nothing is visited, as if they were expanded: whether they are changes no visit
abbrev pub barren_ones : Blocks → Going
barren_ones store c places = is_barren store c

-- this, and what was expanded before
abbrev pub expanded_also : List ℕ → List Place → Going → Going
expanded_also c places expanded d others = (bytes_eq c d && same_residual places others) || expanded d others

-- The data that are expanded at a link, if any: at every link those of its CID, or with link-visit-once those of a sound block
-- that the walk has not expanded with the residual there.
abbrev pub data_inside : Blocks → Option Going → PendingLink → Option Data
data_inside store None f = value_of store f.cid
data_inside store (Some expanded) f = if expanded f.cid f.residual then None else sound_value store f.cid

-- what was expanded after a link
abbrev pub expanded_after : Option Data → PendingLink → Option Going → Option Going
expanded_after inside f None = None
expanded_after None f (Some expanded) = Some expanded
expanded_after (Some d) f (Some expanded) = Some (expanded_also f.cid f.residual expanded)

-- The first so many visits where these links wait: one is visited, and then the links below it wait before the others.
abbrev pub first_arrivals : Blocks → Option Going → ℕ → List PendingLink → List Arrival
first_arrivals store had zero links = []
first_arrivals store had (suc n) [] = []
first_arrivals store had (suc n) (f ∷ links) =
    arrival f.depth f.cid ∷ first_arrivals store (expanded_after (data_inside store had f) f had) n (links_inside f.residual (f.depth + 1) (data_inside store had f) ++ links)

-- what is left of a subtree: a link, the elements of a list from a position on, or the values of a map
pub data Part : Type 0 where
  to_cid : List ℕ → Part
  members : ℕ → Items → Part
  values : Entries → Part

abbrev pub part_links : List Place → ℕ → Part → List PendingLink
part_links places depth (to_cid c) = waiting places depth c ∷ []
part_links places depth (members n ds) = links_in_items places depth n ds
part_links places depth (values es) = links_in_entries places depth es

-- a subtree of which something is left: what the selector enters there, and how many links were crossed
pub record Subtree : Type 0 where
  pub places : List Place
  pub part : Part
  pub depth : ℕ

-- the links in it
abbrev pub subtree_links : Subtree → List PendingLink
subtree_links s = part_links s.places s.depth s.part

-- those of many, one after the other
abbrev pub all_links : List Subtree → List PendingLink
all_links [] = []
all_links (s ∷ ss) = subtree_links s ++ all_links ss

abbrev pub found_links : Option PendingLink → List PendingLink
found_links None = []
found_links (Some f) = f ∷ []

abbrev mutual
  -- how often a node can be taken apart
  pub weight_of : Data → ℕ
  weight_of null = 0
  weight_of (boolean b) = 0
  weight_of (integer n) = 0
  weight_of (float bits) = 0
  weight_of (bytes b) = 0
  weight_of (text t) = 0
  weight_of (list ds) = items_weight ds + 1
  weight_of (nodes.map es) = entries_weight es + 1
  weight_of (link c) = 1

  pub items_weight : Items → ℕ
  items_weight no_items = 0
  items_weight (item d ds) = weight_of d + items_weight ds + 1

  pub entries_weight : Entries → ℕ
  entries_weight no_entries = 0
  entries_weight (entry k d es) = weight_of d + entries_weight es + 1

abbrev pub part_weight : Part → ℕ
part_weight (to_cid c) = 1
part_weight (members n ds) = items_weight ds + 1
part_weight (values es) = entries_weight es + 1

abbrev pub all_weight : List Subtree → ℕ
all_weight [] = 0
all_weight (s ∷ ss) = part_weight s.part + all_weight ss

-- ---- what a walk keeps, as subtrees

-- no child is left
abbrev pub is_spent : Children → Bool
is_spent (Members count left) = left == 0
is_spent (Values left) = left == 0

-- what is left of an open list or map whose next child is at the front of these bytes, and the bytes after it
abbrev pub part_at : Children → List ℕ → Option (Part × List ℕ)
part_at (Members count left) b =
    if nat_lt count left then None else result_ok (items_at (item_at 512) left b >>= (λ ds. Ok (members (count - left) ds.0, ds.1)))
part_at (Values left) b = result_ok (entries_at (item_at 512) None left b >>= (λ es. Ok (values es.0, es.1)))

abbrev pub opened : OpenNode → Part → Subtree
opened o part = record { places = o.residual; part = part; depth = o.depth }

-- the same list or map, with these children left
abbrev pub with_children : OpenNode → Children → OpenNode
with_children o children = record { residual = o.residual; children = children; depth = o.depth; resume_at = o.resume_at }

abbrev pub found : PendingLink → Subtree
found f = record { places = f.residual; part = to_cid f.cid; depth = f.depth }

-- the subtrees of a stack, the next one first, where the walk is at the front of these bytes: an open list or map continues
-- where the one inside it ends, and if that is after all of its block, in the block that the walk came from
abbrev pub stands : List ℕ → List OpenNode → Option (List Subtree)
stands b [] = Some []
stands b (o ∷ os) = option_and_then (λ x. option_map (λ ss. opened o x.0 ∷ ss) (stands (resumed o.resume_at x.1) os)) (part_at o.children b)

-- a link to visit comes before all of them
abbrev pub with_next : Option PendingLink → List Subtree → List Subtree
with_next None ss = ss
with_next (Some f) ss = found f ∷ ss

-- the subtrees of a frontier, if its bytes can be read
abbrev pub frontier_stands : Frontier → Option (List Subtree)
frontier_stands t = option_map (with_next t.next) (stands t.at (reverse t.stack.items))

abbrev pub or_nil : Option (List Subtree) → List Subtree
or_nil None = []
or_nil (Some ss) = ss

-- what a walk has still to traverse
abbrev pub subtrees : Frontier → List Subtree
subtrees t = or_nil (frontier_stands t)

-- a root that the walk has not visited
abbrev pub root_link : Pattern → List ℕ → PendingLink
root_link selector c = waiting (residual_of selector) 0 c

-- the links that wait: those of the frontier, and after them the other roots
abbrev pub links_left : Pattern → List Subtree → List (List ℕ) → List PendingLink
links_left selector ss roots = all_links ss ++ map (root_link selector) roots

-- what a walk that has returned so many visits has still to return, where these links wait: as many visits as the limit leaves
-- it, and whether there is one more
abbrev pub walk_left : Blocks → ℕ → ℕ → ℕ → Option Going → List PendingLink → Bool → WalkLeft
walk_left store number limit given had links true = nothing_left
walk_left store number limit given had links false =
    let arrivals = first_arrivals store had (suc (limit - given)) links in
    record { visits = visits_from store number given (take (limit - given) arrivals); limited = nat_lt (limit - given) (length arrivals); ended = false }

-- what is left can be traversed
abbrev pub IsStanding : Frontier → Type 0
IsStanding t = (ss : List Subtree) × (frontier_stands t ≡ Some ss)

-- the depth of each link is such
abbrev pub HaveDepths : (ℕ → Type 0) → List PendingLink → Type 0
HaveDepths P [] = Unit {0}
HaveDepths P (f ∷ links) = P f.depth × HaveDepths P links

-- no link is deeper
abbrev pub NoDeeper : ℕ → List PendingLink → Type 0
NoDeeper depth links = HaveDepths (λ d. d ≤ depth) links

-- what a walk keeps: no link that waits is deeper than there are visits returned, and these are within the limit
abbrev pub IsWalk : ℕ → ℕ → Frontier → Type 0
IsWalk limit given t = (given ≤ limit) × (ss : List Subtree) × (frontier_stands t ≡ Some ss) × NoDeeper given (all_links ss)
