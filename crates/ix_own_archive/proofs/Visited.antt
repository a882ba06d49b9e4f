-- What a job visits are CIDs, if its roots are.
use Rattle.std.proofs.Common.{◌≡◌, ℕ, zero, suc, ◌+◌, Bool, true, false, cond, List, [], ◌∷◌, ◌++◌, refl, sym, subst, append_assoc}
use Rattle.std.specs.Prelude.{Option, Some, None, option_and_then}
use Rattle.std.specs.List.{AllByRecursion}
use Rattle.ix_cid.specs.Cid.{IsCid}
use Rattle.ix_cbor.specs.Data.{Data, Items, Entries, null, boolean, integer, float, bytes, text, list, map, link, no_items, item, no_entries, entry}
use Rattle.ix_cbor.specs.Reading.{data_at}
use Rattle.ix_selector.specs.Enters.{key, nth, Path}
use Rattle.ix_selector.specs.IsEntered.{is_entered}
use Rattle.ix_selector.specs.Residual.{Place}
use Rattle.ix_selector.specs.Behind.{residual_at, same_residual}
use Rattle.ix_store.specs.Store.{Blocks, bytes_of, is_dag_cbor}
use Rattle.ix_walk.specs.JobMeaning.{JobMeaning}
use Rattle.ix_walk.specs.Arrivals.{Arrival, Crossing, behind, arrivals_below, arrivals_in_items, arrivals_in_entries, when_some}
use Rattle.ix_walk.specs.Once as walks
use Rattle.ix_walk.proofs.Links.{all-append, all-right}
use Rattle.ix_car.specs.Laws.{once}
use Rattle.ix_receive.specs.Own.{AreTheirOwnWith}
use Rattle.ix_receive.specs.Receiving.{first_visits, IsNextSection, OwnAreReceived}
use Rattle.ix_verify.proofs.PairsAgain.{HasCid}
use Rattle.ix_own_archive.proofs.LinksRead.{HasCids, HaveCids, ValuesHaveCids, data-cids}

-- a visit of a CID
abbrev pub VisitsCid : Arrival → Type 0
VisitsCid a = IsCid a.cid

-- what is found below a test
chosen-visits : (t : Bool) (xs : List Arrival) → AllByRecursion VisitsCid xs → AllByRecursion VisitsCid (cond t xs [])
chosen-visits true xs h = h
chosen-visits false xs h = tt

module _ (enters : Path → Bool) (cross : Crossing) (crosses : (c : List ℕ) (p : Path) → IsCid c → AllByRecursion VisitsCid (cross c p)) where
  mutual
    -- the links below data
    below-cids : (d : Data) (p : Path) → HasCids d → AllByRecursion VisitsCid (arrivals_below enters cross d p)
    below-cids null p h = tt
    below-cids (boolean b) p h = tt
    below-cids (integer n) p h = tt
    below-cids (float bits) p h = tt
    below-cids (bytes b) p h = tt
    below-cids (text t) p h = tt
    below-cids (list ds) p h = items-cids 0 ds p h
    below-cids (map es) p h = entries-cids es p h
    below-cids (link c) p h = crosses c p h

    items-cids : (n : ℕ) (ds : Items) (p : Path) → HaveCids ds → AllByRecursion VisitsCid (arrivals_in_items enters cross n ds p)
    items-cids n no_items p h = tt
    items-cids n (item d ds) p h =
        let inside = arrivals_below enters cross d (behind p (nth n)) in
        all-append VisitsCid (cond (enters (behind p (nth n))) inside []) (arrivals_in_items enters cross (n + 1) ds p)
        (chosen-visits (enters (behind p (nth n))) inside (below-cids d (behind p (nth n)) h.0)) (items-cids (n + 1) ds p h.1)

    entries-cids : (es : Entries) (p : Path) → ValuesHaveCids es → AllByRecursion VisitsCid (arrivals_in_entries enters cross es p)
    entries-cids no_entries p h = tt
    entries-cids (entry k d es) p h =
        let inside = arrivals_below enters cross d (behind p (key k)) in
        all-append VisitsCid (cond (enters (behind p (key k))) inside []) (arrivals_in_entries enters cross es p)
        (chosen-visits (enters (behind p (key k))) inside (below-cids d (behind p (key k)) h.0)) (entries-cids es p h.1)

-- the data that a CID names in a store
value-cids : (sound is : Bool) (o : Option (List ℕ)) (d : Data) → cond sound (cond is (option_and_then data_at o) None) None ≡ Some d → HasCids d
value-cids true true (Some b) d h = data-cids b d h
value-cids true true None d h = absurd (cc h)
value-cids true false o d h = absurd (cc h)
value-cids false is o d h = absurd (cc h)

module _ (store : Blocks) (enters : Path → Bool) (rest : Path → List Place) where
  -- what is visited right below a visit
  inside-cids : (a : Arrival) (o : Option Data) → ((d : Data) → o ≡ Some d → HasCids d) → AllByRecursion VisitsCid (when_some o (λ d. walks.links_below enters d a))
  inside-cids a None h = tt
  inside-cids a (Some d) h =
      below-cids enters (λ c p. record { root = a.root; path = p; depth = a.depth + 1; cid = c } ∷ []) (λ c p is. (is, tt)) d a.path (h d refl)

  -- the data that are expanded there
  expanded-cids : (t : Bool) (c : List ℕ) (d : Data) → cond t None (walks.sound_value store c) ≡ Some d → HasCids d
  expanded-cids true c d h = absurd (cc h)
  expanded-cids false c d h = value-cids (walks.bytes_match store c) (is_dag_cbor c) (bytes_of store c) d h

  -- the visits of links that wait
  visits-cids : (n : ℕ) (expanded : List (List ℕ × List Place)) (waiting : List Arrival) → AllByRecursion VisitsCid waiting
      → AllByRecursion VisitsCid (walks.once enters rest same_residual (walks.sound_value store) n expanded waiting)
  visits-cids zero expanded waiting h = tt
  visits-cids (suc n) expanded [] h = tt
  visits-cids (suc n) expanded (a ∷ more) h =
      let found = walks.expanded_at enters rest same_residual (walks.sound_value store) expanded a in
      let below = when_some found (λ d. walks.links_below enters d a) in (
        h.0,
        visits-cids n (walks.expanded_after enters rest same_residual (walks.sound_value store) found a expanded) (below ++ more)
            (all-append VisitsCid below more
            (inside-cids a found (expanded-cids (walks.was_expanded enters rest same_residual (walks.sound_value store) expanded a) a.cid)) h.1),
      )

-- the visits of roots
roots-cids : (root : ℕ) (cs : List (List ℕ)) → AllByRecursion IsCid cs → AllByRecursion VisitsCid (walks.roots_from root cs)
roots-cids root [] h = tt
roots-cids root (c ∷ cs) h = (h.0, roots-cids (root + 1) cs h.1)

-- the first visits of a job
first-cids : (n : ℕ) (job : JobMeaning) (sections : Blocks) → AllByRecursion IsCid job.roots → AllByRecursion VisitsCid (first_visits n job sections)
first-cids n job sections h = visits-cids sections (is_entered job.selector) (residual_at job.selector) n [] (walks.roots_from 0 job.roots) (roots-cids 0 job.roots h)

-- the next section is of a CID
next-cid : (base : Blocks) (n : ℕ) (job : JobMeaning) (sections : Blocks) (p : List ℕ × List ℕ) → AllByRecursion IsCid job.roots → IsNextSection base n job sections p → HasCid p
next-cid base n job sections p roots next =
    let all = subst (AllByRecursion VisitsCid) next.next (first-cids (suc n) job (base ++ sections) roots) in
    subst IsCid next.named (all-right VisitsCid (first_visits n job (base ++ sections)) (next.visit ∷ []) all).0

-- the sections of an own archive are of CIDs
pub own-cids : (base : Blocks) (number : ℕ) (job : JobMeaning) (before after : Blocks) → OwnAreReceived base → AllByRecursion IsCid job.roots → AreTheirOwnWith base number (once job) (before ++ after) → AllByRecursion HasCid after
own-cids base number job before [] each roots own = tt
own-cids base number job before (p ∷ after) each roots own =
    let step = each number job before after p own in (
      next-cid base step.0 job before p roots step.3,
      own-cids base number job (before ++ p ∷ []) after each roots (subst (AreTheirOwnWith base number (once job)) (sym (append_assoc before (p ∷ []) after)) own),
    )
