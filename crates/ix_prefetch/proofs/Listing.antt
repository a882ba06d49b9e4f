-- The links that a walk over a table has still to visit.
use Rattle.std.proofs.Common.{◌≡◌, ℕ, suc, ◌+◌, ◌-◌, ◌<◌, ◌≤◌, List, [], ◌∷◌, ◌++◌, length, map, reverse, get_or, take, drop, refl, sym, ◌∙◌, ap, subst, arith, length-append, append_assoc}
use Rattle.std.specs.Prelude.{Some, All}
use Rattle.std.specs.Global.{Vec}
use Rattle.std.proofs.Math.Seq.{drop-cons, get_or-append_seam}
use Rattle.std.proofs.Math.ListN.{get_or-append}
use Rattle.std.proofs.lemmas.List.Elements.{All-append, All-cons, All-nil}
use Rattle.std.proofs.lemmas.Option.{get_or_from_slice_get}
use Rattle.ix_walk.specs.declared.subtree.PendingLink.{PendingLink}
use Rattle.ix_walk.specs.Walking.{waiting, root_link}
use Rattle.ix_walk.proofs.Stands.{reversed_push}
use Rattle.ix_prefetch.specs.declared.link.LinkAt.{LinkAt}
use Rattle.ix_prefetch.specs.declared.link.LinkAt.TheVariants.{Stored, Written}
use Rattle.ix_prefetch.specs.declared.state.ListLeft.{ListLeft}
use Rattle.ix_prefetch.specs.declared.state.Waits.{Waits}
use Rattle.ix_prefetch.specs.declared.state.Waits.TheVariants.{List as Listing, Link as Waiting}
use Rattle.ix_prefetch.specs.declared.state.Next.{Next}
use Rattle.ix_prefetch.specs.declared.state.Next.TheVariants.{Listed, Found}
use Rattle.ix_prefetch.specs.declared.state.TableState.{TableState}
use Rattle.ix_prefetch.specs.Growing.{at_depth}
use Rattle.ix_prefetch.specs.Link.{cid_at}
use Rattle.ix_prefetch.specs.Expansions.{ExpansionTable, residual_in, IsLinkAt}
use Rattle.ix_prefetch.specs.TableState.{rest_of, list_links, links_of, all_links_of, links_in, links_left, IsWaiting, IsWithin, next_pending, IsNextLink, PutsBefore, IsFirst}

-- ---- a list

-- the first link of a list, and the others
list_first : (t : ExpansionTable) (l : ListLeft) (d : PendingLink) → l.from < l.to → l.to ≤ length t.links → list_links t l ≡ at_depth l.depth (get_or t.links l.from d) ∷ list_links t (rest_of l)
list_first t l d lt within =
    let s : l.to - l.from ≡ suc (l.to - (l.from + 1)) = omega arith in
    let n : l.from + 1 ≡ suc l.from = omega arith in
    ap (λ (k : ℕ). map (at_depth l.depth) (take k (drop l.from t.links))) s
    ∙ ap (λ (xs : List PendingLink). map (at_depth l.depth) (take (suc (l.to - (l.from + 1))) xs)) (drop-cons t.links l.from d (omega arith))
    ∙ ap (λ (k : ℕ). at_depth l.depth (get_or t.links l.from d) ∷ map (at_depth l.depth) (take (l.to - (l.from + 1)) (drop k t.links))) (sym n)

-- an empty one has none
pub list_empty : (t : ExpansionTable) (l : ListLeft) → l.to ≤ l.from → list_links t l ≡ []
list_empty t l le = let z : l.to - l.from ≡ 0 = omega arith in ap (λ (k : ℕ). map (at_depth l.depth) (take k (drop l.from t.links))) z

-- it is the link that the table has there
pub first_is : (t : ExpansionTable) (l : ListLeft) (link : LinkAt) → l.from < l.to → l.to ≤ length t.links → IsLinkAt t l.from link → IsFirst t l (Listed link l.depth)
first_is t l (Stored residual place pair) lt within is =
    let f : PendingLink = waiting (residual_in t residual) 0 (cid_at t.store place) in (
      list_first t l f lt within ∙ ap (λ (x : PendingLink). at_depth l.depth x ∷ list_links t (rest_of l)) (get_or_from_slice_get t.links l.from f f is.2),
      (is.0, is.1),
    )
first_is t l (Written residual cid) lt within is =
    let f : PendingLink = waiting (residual_in t residual) 0 cid in
    (list_first t l f lt within ∙ ap (λ (x : PendingLink). at_depth l.depth x ∷ list_links t (rest_of l)) (get_or_from_slice_get t.links l.from f f is.1), is.0)

-- ---- what waits

-- the last of what waits comes first
pub last_first : (t : ExpansionTable) (ws before : List Waits) (w : Waits) → ws ≡ before ++ w ∷ [] → all_links_of t (reverse ws) ≡ links_of t w ++ all_links_of t (reverse before)
last_first t ws before w e = ap (all_links_of t) (reversed_push ws before w e)

-- what holds of each holds of the last, and of the others
pub all_before : {X : Type 0} (P : X → Type 0) (xs ys : List X) (x : X) → xs ≡ ys ++ x ∷ [] → All P xs → All P ys
all_before P xs ys x e all k d lt =
    subst P (get_or-append ys (x ∷ []) d k lt) (subst (All P) e all k d (omega (arith, lt, length-append ys (x ∷ []))))

pub all_last : {X : Type 0} (P : X → Type 0) (xs ys : List X) (x : X) → xs ≡ ys ++ x ∷ [] → All P xs → P x
all_last P xs ys x e all =
    subst P (get_or-append_seam ys x [] x) (subst (All P) e all (length ys) x (omega (arith, length-append ys (x ∷ []))))

-- ---- the next link

-- where that is empty, the links that wait come next
popped : (t : ExpansionTable) (old : TableState) (waits : Vec Waits) (w : Waits) → old.at.to ≤ old.at.from → old.waiting.items ≡ waits.items ++ w ∷ []
    → links_left t old ≡ (links_of t w ++ all_links_of t (reverse waits.items)) ++ map (root_link t.job.selector) old.roots.now
popped t old waits w empty taken =
    ap (λ (fs : List PendingLink). (fs ++ all_links_of t (reverse old.waiting.items)) ++ map (root_link t.job.selector) old.roots.now) (list_empty t old.at empty)
    ∙ ap (λ (fs : List PendingLink). fs ++ map (root_link t.job.selector) old.roots.now) (last_first t old.waiting.items waits.items w taken)

-- the first of a list that waits
pub next_listed : (t : ExpansionTable) (old : TableState) (waits : Vec Waits) (list at : ListLeft) (next : Next) → IsWithin t old → old.at.to ≤ old.at.from → old.waiting.items ≡ waits.items ++ Listing list ∷ []
    → IsFirst t list next → at ≡ rest_of list → IsNextLink t old (Some next) (record old { at = at; waiting = waits })
next_listed t old waits list at next within empty taken first rest =
    record {
      links =
          popped t old waits (Listing list) empty taken
          ∙ ap (λ (fs : List PendingLink). (fs ++ all_links_of t (reverse waits.items)) ++ map (root_link t.job.selector) old.roots.now) first.0
          ∙ ap (λ (l : ListLeft). next_pending t next ∷ ((list_links t l ++ all_links_of t (reverse waits.items)) ++ map (root_link t.job.selector) old.roots.now)) (sym rest);
      next = first.1;
      ends = tt;
      within = record {
        list = subst (λ (l : ListLeft). l.to ≤ length t.links) (sym rest) (all_last (IsWaiting t) old.waiting.items waits.items (Listing list) taken within.waits).1;
        waits = all_before (IsWaiting t) old.waiting.items waits.items (Listing list) taken within.waits;
      };
      expanded = refl;
    }

-- a link that waits
pub next_found : (t : ExpansionTable) (old : TableState) (waits : Vec Waits) (f : PendingLink) → IsWithin t old → old.at.to ≤ old.at.from → old.waiting.items ≡ waits.items ++ Waiting f ∷ []
    → IsNextLink t old (Some (Found f)) (record old { waiting = waits })
next_found t old waits f within empty taken =
    record {
      links =
          popped t old waits (Waiting f) empty taken
          ∙ ap (λ (fs : List PendingLink). f ∷ ((fs ++ all_links_of t (reverse waits.items)) ++ map (root_link t.job.selector) old.roots.now)) (sym (list_empty t old.at empty));
      next = tt;
      ends = tt;
      within = record { list = within.list; waits = all_before (IsWaiting t) old.waiting.items waits.items (Waiting f) taken within.waits };
      expanded = refl;
    }

-- where nothing waits, only the roots are left
pub nothing_waits : (t : ExpansionTable) (at : ListLeft) (ws : List Waits) → at.to ≤ at.from → ws ≡ [] → links_in t at ws ≡ []
nothing_waits t at ws empty none =
    ap (λ (fs : List PendingLink). fs ++ all_links_of t (reverse ws)) (list_empty t at empty) ∙ ap (λ (xs : List Waits). all_links_of t (reverse xs)) none

-- ---- links before those that wait

-- some of the links were put before what waits; these are still to be put before them
pub record ArePut (t : ExpansionTable) (all links : List PendingLink) (old s : TableState) : Type 0 where
  pub empty : list_links t s.at ≡ []
  pub put : links ++ all_links_of t (reverse s.waiting.items) ≡ all ++ links_in t old.at old.waiting.items
  pub within : IsWithin t s
  pub expanded : s.expanded ≡ old.expanded
  pub roots : s.roots.now ≡ old.roots.now

-- none at first
pub put_none : (t : ExpansionTable) (all : List PendingLink) (old s : TableState) → PutsBefore t [] old s × (list_links t s.at ≡ []) → ArePut t all all old s
put_none t all old s aside = record {
  empty = aside.1;
  put = ap (λ (fs : List PendingLink). all ++ fs) (ap (λ (fs : List PendingLink). fs ++ all_links_of t (reverse s.waiting.items)) (sym aside.1) ∙ aside.0.before);
  within = aside.0.within;
  expanded = aside.0.expanded;
  roots = aside.0.roots;
}

-- one more
pub put_one : (t : ExpansionTable) (all links before : List PendingLink) (old s : TableState) (waits : Vec Waits) (f : PendingLink) → ArePut t all links old s → links ≡ before ++ f ∷ [] → waits.items ≡ s.waiting.items ++ Waiting f ∷ []
    → ArePut t all before old (record s { waiting = waits })
put_one t all links before old s waits f is taken put = record {
  empty = is.empty;
  put =
      ap (λ (fs : List PendingLink). before ++ fs) (last_first t waits.items s.waiting.items (Waiting f) put)
      ∙ sym (append_assoc before (f ∷ []) (all_links_of t (reverse s.waiting.items)))
      ∙ ap (λ (fs : List PendingLink). fs ++ all_links_of t (reverse s.waiting.items)) (sym taken) ∙ is.put;
  within = record {
    list = is.within.list;
    waits = subst (All (IsWaiting t)) (sym put) (All-append (IsWaiting t) s.waiting.items (Waiting f ∷ []) is.within.waits (All-cons (IsWaiting t) (Waiting f) [] tt (All-nil (IsWaiting t))));
  };
  expanded = is.expanded;
  roots = is.roots;
}

-- all
pub put_all : (t : ExpansionTable) (all links : List PendingLink) (old s : TableState) → ArePut t all links old s → links ≡ [] → PutsBefore t all old s
put_all t all links old s is none = record {
  before =
      ap (λ (fs : List PendingLink). fs ++ all_links_of t (reverse s.waiting.items)) is.empty
      ∙ ap (λ (fs : List PendingLink). fs ++ all_links_of t (reverse s.waiting.items)) (sym none) ∙ is.put;
  within = is.within;
  expanded = is.expanded;
  roots = is.roots;
}

-- ---- the next root
