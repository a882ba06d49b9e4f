-- Visiting a link, by a walk over a table.
use Rattle.std.proofs.Common.{◌≡◌, ℕ, ◌+◌, ◌<◌, ◌≤◌, Bool, true, false, List, [], ◌∷◌, ◌++◌, length, map, refl, sym, ◌∙◌, ap, subst, append_assoc, arith}
use Rattle.std.specs.Prelude.{Option, Some, None, Ok, IfSome, is_some, if◌then◌else◌}
use Rattle.ix_cbor.specs.Data.{Data}
use Rattle.ix_selector.specs.Pattern.{Pattern}
use Rattle.ix_selector.specs.Residual.{Place}
use Rattle.ix_store.specs.Store.{Blocks, position_of, value_of}
use Rattle.ix_walk.specs.declared.subtree.PendingLink.{PendingLink}
use Rattle.ix_walk.specs.declared.visit.Visit.{Visit}
use Rattle.ix_walk.specs.declared.visited_set.VisitedSet.{VisitedSet}
use Rattle.ix_walk.specs.Once.{bytes_match}
use Rattle.ix_walk.specs.Arriving.{Goes, IsValue}
use Rattle.ix_walk.specs.Visits.{is_malformed, whole_walk}
use Rattle.ix_walk.specs.VisitedSet.{going_of}
use Rattle.ix_walk.specs.Walking.{waiting, Going, data_inside, links_inside, root_link, walk_left, NoDeeper}
use Rattle.ix_walk.specs.WalkLeft.{GivesNext}
use Rattle.ix_walk.proofs.Reached.{all_append, all_inside}
use Rattle.ix_walk.proofs.Starts.{IsFollowed, expanded_at_start, arrives_all}
use Rattle.ix_walk.proofs.Takes.{visit_with, deeper}
use Rattle.ix_walk.specs.Expansion.{IsBlock}
use Rattle.ix_prefetch.specs.declared.link.Pair.{Pair}
use Rattle.ix_prefetch.specs.declared.state.Next.{Next}
use Rattle.ix_prefetch.specs.declared.state.TableState.{TableState}
use Rattle.ix_prefetch.specs.Growing.{at_depth}
use Rattle.ix_prefetch.specs.Link.{cid_at}
use Rattle.ix_prefetch.specs.Expansions.{ExpansionTable, residual_in}
use Rattle.ix_prefetch.specs.TableState.{list_links, links_in, links_left, IsWithin, next_pending, IsNextLink, PutsBefore, IsVisited}
use Rattle.ix_prefetch.specs.TableWalk.{left_of_table_walk, IsWalking}
use Rattle.ix_prefetch.specs.Visiting.{IsUsable, EntersList, IsVisitAt, PutsInside}
use Rattle.ix_prefetch.proofs.Resting.{moved_below}
use Rattle.ix_prefetch.proofs.Tables.{named}
use Rattle.ix_prefetch.proofs.Listing.{nothing_waits}

-- ---- whether the links of a list are visited

-- the data that are expanded are those of the CID
inside_value : (store : Blocks) (had : Option Going) (f : PendingLink) (d : Data) → data_inside store had f ≡ Some d → value_of store f.cid ≡ Some d
inside_value store None f d e = e
inside_value store (Some g) f d e = on (g f.cid f.residual) (bytes_match store f.cid) e where
  on : (b s : Bool) → (if b then None else (if s then value_of store f.cid else None)) ≡ Some d → value_of store f.cid ≡ Some d
  on true s e = absurd cc
  on false true e = e
  on false false e = absurd cc

-- otherwise where a walk expands the block
pub enters_by : (store : Blocks) (places : List Place) (cid : List ℕ) (old new : Option VisitedSet) (bytes : Option (List ℕ)) → ((depth : ℕ) → Goes store (waiting places depth cid) (going_of store old) bytes (going_of store new))
    → EntersList store places cid old new (is_some bytes)
enters_by store places cid old new None goes = record { inside = λ depth. (goes depth).inside; expanded = λ depth. (goes depth).expanded }
enters_by store places cid old new (Some b) goes = record {
  inside = λ depth. let v = (goes depth).inside in v.1 ∙ sym (inside_value store (going_of store old) (waiting places depth cid) v.0 v.1);
  expanded = λ depth. (goes depth).expanded;
}

-- the bytes of a value are those of a block
pub block_valued : (value : Option Data) (o : Option (List ℕ)) → IsValue value o → IfSome o (λ b. IsBlock b)
block_valued value None is = tt
block_valued value (Some b) is = (is.0, is.2)

-- ---- the visit of a link

-- the visit of a CID, by its position and whether it is malformed
pub is_visit_at : (t : ExpansionTable) (number seq depth : ℕ) (c : List ℕ) (block : Option ℕ) (malformed : Bool) → block ≡ position_of t.store c → malformed ≡ is_malformed t.store c
    → IsVisitAt t number seq (record { job = number; seq = seq; depth = depth; cid = c; block = block; malformed = malformed })
is_visit_at t number seq depth c block malformed place fault = λ i. record { job = number; seq = seq; depth = depth; cid = c; block = place i; malformed = fault i }

-- the links of a CID's data at another depth
moved_inside : (places : List Place) (depth : ℕ) (o : Option Data) → map (at_depth depth) (links_inside places 0 o) ≡ links_inside places depth o
moved_inside places depth None = refl
moved_inside places depth (Some d) = sym (moved_below 0 depth places d)

-- the pair of a visit's block is that of its CID
pub pair_cid : (t : ExpansionTable) (number seq residual : ℕ) (once : Bool) (v : Visit) (p : Pair) → IsVisitAt t number seq v → IsUsable t v.block residual once p → cid_at t.store p.place ≡ v.cid
pair_cid t number seq residual once v p visit usable = named t.store v.cid p.place (usable.here ∙ ap (λ (w : Visit). w.block) visit)

-- its list has the links below the visit
listed_below : (t : ExpansionTable) (number seq residual : ℕ) (once : Bool) (v : Visit) (p : Pair) → IsVisitAt t number seq v → IsUsable t v.block residual once p → p.barren ≡ false
    → list_links t (record { from = p.from; to = p.to; depth = v.depth + 1 }) ≡ links_inside (residual_in t p.residual) (v.depth + 1) (value_of t.store v.cid)
listed_below t number seq residual once v p visit usable live =
    ap (map (at_depth (v.depth + 1))) (usable.pair.links live)
    ∙ moved_inside (residual_in t p.residual) (v.depth + 1) (value_of t.store (cid_at t.store p.place))
    ∙ ap (λ (c : List ℕ). links_inside (residual_in t p.residual) (v.depth + 1) (value_of t.store c)) (pair_cid t number seq residual once v p visit usable)

-- so a visit whose list is put before the others is
pub list_visited : (t : ExpansionTable) (number seq residual : ℕ) (once : Bool) (v : Visit) (p : Pair) (old new : TableState) (expanded : Option VisitedSet) → IsVisitAt t number seq v → IsUsable t v.block residual once p → p.barren ≡ false
    → EntersList t.store (residual_in t p.residual) v.cid old.expanded expanded true → PutsBefore t (list_links t (record { from = p.from; to = p.to; depth = v.depth + 1 })) (record old { expanded = expanded }) new
    → IsVisited t number seq (waiting (residual_in t p.residual) v.depth v.cid) old v new
list_visited t number seq residual once v p old new expanded visit usable live enters puts = record {
  visit = visit;
  expanded = ap (going_of t.store) puts.expanded ∙ enters.expanded v.depth;
  links =
      puts.before
      ∙ ap (λ (fs : List PendingLink). fs ++ links_in t old.at old.waiting.items)
      (listed_below t number seq residual once v p visit usable live ∙ ap (λ (o : Option Data). links_inside (residual_in t p.residual) (v.depth + 1) o) (sym (enters.inside v.depth)));
  within = puts.within;
  roots = puts.roots;
}

-- and one whose block is expanded
pub block_visited : (t : ExpansionTable) (number seq : ℕ) (places : List Place) (v : Visit) (bytes : Option (List ℕ)) (old new : TableState) (expanded : Option VisitedSet) → IsVisitAt t number seq v → IsWithin t old
    → Goes t.store (waiting places v.depth v.cid) (going_of t.store old.expanded) bytes (going_of t.store expanded) → PutsInside places bytes (v.depth + 1) (record old { expanded = expanded }) new
    → IsVisited t number seq (waiting places v.depth v.cid) old v new
block_visited t number seq places v bytes old new expanded visit within goes puts =
    let put = puts (data_inside t.store (going_of t.store old.expanded) (waiting places v.depth v.cid)) goes.inside t (record { list = within.list; waits = within.waits }) in
    record {
      visit = visit;
      expanded = ap (going_of t.store) put.expanded ∙ goes.expanded;
      links = put.before;
      within = put.within;
      roots = put.roots;
    }

-- ---- what is taken

-- what comes next is no deeper than there are visits, and nor are the others
shallow_next : (t : ExpansionTable) (given : ℕ) (old mid : TableState) (next : Next) → IsWalking t given old → IsNextLink t old (Some next) mid → NoDeeper given (next_pending t next ∷ links_left t mid)
shallow_next t given old mid next is taken = subst (NoDeeper given) taken.links is.shallow

-- within the limit the walk returns the link's visit
pub table_visit : (t : ExpansionTable) (number given : ℕ) (old mid new : TableState) (next : Next) (v : Visit) → (given ≡ t.job.limit → ⊥) → IsWalking t given old → IsNextLink t old (Some next) mid
    → IsVisited t number given (next_pending t next) mid v new
    → GivesNext (left_of_table_walk t number given old false) (Some (Ok v)) (left_of_table_walk t number (given + 1) new false) × IsWalking t (given + 1) new
table_visit t number given old mid new next v not is taken visited =
    let f = next_pending t next in
    let store = t.store in
    let had : Option Going = going_of store mid.expanded in
    let lt : given < t.job.limit = let k = is.limit in omega arith in
    let shallow = shallow_next t given old mid next is taken in
    let low : f.depth ≤ given = shallow.0 in
    let inside : List PendingLink = links_inside f.residual (f.depth + 1) (data_inside store had f) in
    let below : links_left t new ≡ inside ++ links_left t mid =
    ap (λ (fs : List PendingLink). fs ++ map (root_link t.job.selector) new.roots.now) visited.links
    ∙ ap (λ (cs : List (List ℕ)). (inside ++ links_in t mid.at mid.waiting.items) ++ map (root_link t.job.selector) cs) visited.roots
    ∙ append_assoc inside (links_in t mid.at mid.waiting.items) (map (root_link t.job.selector) mid.roots.now) in (
      subst (λ (e : Option VisitedSet). GivesNext (walk_left store number t.job.limit given (going_of store e) (links_left t old) false) (Some (Ok v)) (left_of_table_walk t number (given + 1) new false)) taken.expanded
          (visit_with store number t.job.limit given had (going_of store new.expanded) (links_left t old) (links_left t mid) (links_left t new) f v lt visited.visit taken.links visited.expanded below),
      record {
        limit = omega (arith, lt);
        within = visited.within;
        shallow =
            subst (NoDeeper (given + 1)) (sym below)
            (all_append (λ k. k ≤ given + 1) inside (links_left t mid)
            (all_inside (λ k. k ≤ given + 1) (f.depth + 1) (omega (arith, low)) f.residual (data_inside store had f)) (deeper given (links_left t mid) shallow.1));
      },
    )

-- ---- the beginning and the end

-- roots aren't deep
roots_shallow : (s : Pattern) (given : ℕ) (roots : List (List ℕ)) → NoDeeper given (map (root_link s) roots)
roots_shallow s given [] = tt
roots_shallow s given (c ∷ cs) = (omega arith, roots_shallow s given cs)

-- where only roots wait, a walk may go on
pub walks_roots : (t : ExpansionTable) (given : ℕ) (s : TableState) → given ≤ t.job.limit → s.at.to ≡ 0 → s.waiting.items ≡ [] → IsWalking t given s
walks_roots t given s le at waits = record {
  limit = le;
  within = record { list = omega (arith, at); waits = λ k d lt. absurd (let z : length s.waiting.items ≡ 0 = ap length waits in omega (arith, lt, z)) };
  shallow = subst (NoDeeper given) (sym (only_roots t s at waits)) (roots_shallow t.job.selector given s.roots.now);
} where
  only_roots : (t : ExpansionTable) (s : TableState) → s.at.to ≡ 0 → s.waiting.items ≡ [] → links_left t s ≡ map (root_link t.job.selector) s.roots.now
  only_roots t s at waits = ap (λ (fs : List PendingLink). fs ++ map (root_link t.job.selector) s.roots.now) (nothing_waits t s.at s.waiting.items (omega (arith, at)) waits)

-- all of the walk is left at first
pub starts : (t : ExpansionTable) (number : ℕ) (b : Bool) (s : TableState) → IsFollowed t.job.selector → t.job.once ≡ b → going_of t.store s.expanded ≡ expanded_at_start t.store b → s.at.to ≡ 0 → s.waiting.items ≡ [] → s.roots.now ≡ t.job.roots
    → left_of_table_walk t number 0 s false ≡ whole_walk t.store number t.job
starts t number b s is once none at waits same =
    ap (λ (g : Option Going). walk_left t.store number t.job.limit 0 g (links_left t s) false) none
    ∙ ap (λ (fs : List PendingLink). walk_left t.store number t.job.limit 0 (expanded_at_start t.store b) fs false)
    (ap (λ (fs : List PendingLink). fs ++ map (root_link t.job.selector) s.roots.now) (nothing_waits t s.at s.waiting.items (omega (arith, at)) waits) ∙ ap (map (root_link t.job.selector)) same)
    ∙ arrives_all t.store number t.job b is once
