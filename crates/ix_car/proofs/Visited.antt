-- Visits depend only on what is expanded at the CIDs that are visited.
use Rattle.std.proofs.Common.{◌≡◌, ℕ, zero, suc, ◌+◌, Bool, true, false, List, [], ◌∷◌, ◌++◌, refl, ap, ◌∙◌}
use Rattle.std.specs.Prelude.{Option, Some, None, if◌then◌else◌}
use Rattle.std.specs.List.{AllByRecursion}
use Rattle.ix_cbor.specs.Data as nodes
use Rattle.ix_cbor.specs.Data.{Data, Items, Entries, no_items, item, no_entries, entry}
use Rattle.ix_selector.specs.Enters.{key, nth, Path}
use Rattle.ix_walk.specs.Arrivals.{Arrival, Crossing, Inside, behind, when_some, arrivals_below, arrivals_in_items, arrivals_in_entries, arrivals_at, arrivals_from}
use Rattle.ix_walk.specs.Once.{links_below, was_expanded, expanded_after, once}
use Rattle.ix_walk.proofs.Links.{all-left, all-right}

-- ---- at every link

module _ (enters : Path → Bool) (one other : Crossing) (P : Arrival → Type 0) (cross : (c : List ℕ) (p : Path) → AllByRecursion P (one c p) → other c p ≡ one c p) where
  chosen-same : (b : Bool) (x y : List Arrival) → (AllByRecursion P x → y ≡ x) → AllByRecursion P (if b then x else []) → (if b then y else []) ≡ (if b then x else [])
  chosen-same true x y same h = same h
  chosen-same false x y same h = refl

  mutual
    -- below a node, if each link leads to the same
    below-same : (d : Data) (p : Path) → AllByRecursion P (arrivals_below enters one d p) → arrivals_below enters other d p ≡ arrivals_below enters one d p
    below-same nodes.null p h = refl
    below-same (nodes.boolean b) p h = refl
    below-same (nodes.integer n) p h = refl
    below-same (nodes.float bits) p h = refl
    below-same (nodes.bytes b) p h = refl
    below-same (nodes.text t) p h = refl
    below-same (nodes.list ds) p h = items-same 0 ds p h
    below-same (nodes.map es) p h = entries-same es p h
    below-same (nodes.link c) p h = cross c p h

    items-same : (n : ℕ) (ds : Items) (p : Path) → AllByRecursion P (arrivals_in_items enters one n ds p) → arrivals_in_items enters other n ds p ≡ arrivals_in_items enters one n ds p
    items-same n no_items p h = refl
    items-same n (item d ds) p h = λ i.
        chosen-same (enters (behind p (nth n))) _ _ (below-same d (behind p (nth n))) (all-left P _ (arrivals_in_items enters one (n + 1) ds p) h) i
        ++ items-same (n + 1) ds p (all-right P (if enters (behind p (nth n)) then arrivals_below enters one d (behind p (nth n)) else []) _ h) i

    entries-same : (es : Entries) (p : Path) → AllByRecursion P (arrivals_in_entries enters one es p) → arrivals_in_entries enters other es p ≡ arrivals_in_entries enters one es p
    entries-same no_entries p h = refl
    entries-same (entry k d es) p h = λ i.
        chosen-same (enters (behind p (key k))) _ _ (below-same d (behind p (key k))) (all-left P _ (arrivals_in_entries enters one es p) h) i
        ++ entries-same es p (all-right P (if enters (behind p (key k)) then arrivals_below enters one d (behind p (key k)) else []) _ h) i

  -- below a CID, by the data that are there
  inside-same : (o : Option Data) (p : Path) → AllByRecursion P (when_some o (λ d. arrivals_below enters one d p)) → when_some o (λ d. arrivals_below enters other d p) ≡ when_some o (λ d. arrivals_below enters one d p)
  inside-same None p h = refl
  inside-same (Some d) p h = below-same d p h

module _ (enters : Path → Bool) (inside other : Inside) where
  -- the same is expanded at a visit
  abbrev pub IsSameInside : Arrival → Type 0
  IsSameInside a = other a.cid ≡ inside a.cid

  at-same : (root links depth : ℕ) (c : List ℕ) (p : Path) → AllByRecursion IsSameInside (arrivals_at enters inside root links depth c p)
      → arrivals_at enters other root links depth c p ≡ arrivals_at enters inside root links depth c p
  at-same root zero depth c p h = refl
  at-same root (suc links) depth c p h =
      let a : Arrival = record { root = root; path = p; depth = depth; cid = c } in
      ap (λ o. a ∷ when_some o (λ d. arrivals_below enters (arrivals_at enters other root links (depth + 1)) d p)) h.0
      ∙ ap (λ l. a ∷ l)
      (inside-same enters (arrivals_at enters inside root links (depth + 1)) (arrivals_at enters other root links (depth + 1)) IsSameInside (at-same root links (depth + 1)) (inside c) p h.1)

  -- from roots, at every link
  pub from-same : (links root : ℕ) (cs : List (List ℕ)) → AllByRecursion IsSameInside (arrivals_from enters inside links root cs)
      → arrivals_from enters other links root cs ≡ arrivals_from enters inside links root cs
  from-same links root [] h = refl
  from-same links root (c ∷ cs) h = λ i.
      at-same root links 0 c [] (all-left IsSameInside _ (arrivals_from enters inside links (root + 1) cs) h) i
      ++ from-same links (root + 1) cs (all-right IsSameInside (arrivals_at enters inside root links 0 c []) _ h) i

  -- ---- with link-visit-once

  module _ {R : Type 0} (rest : Path → R) (same : R → R → Bool) where
    pub once-same : (n : ℕ) (expanded : List (List ℕ × R)) (waiting : List Arrival) → AllByRecursion IsSameInside (once enters rest same inside n expanded waiting)
        → once enters rest same other n expanded waiting ≡ once enters rest same inside n expanded waiting
    once-same zero expanded waiting h = refl
    once-same (suc n) expanded [] h = refl
    once-same (suc n) expanded (a ∷ more) h =
        let at : Option Data → Option Data = λ o. if was_expanded enters rest same inside expanded a then None else o in
        let after : Option Data → List (List ℕ × R) = λ o. expanded_after enters rest same inside (at o) a expanded in
        let left : Option Data → List Arrival = λ o. when_some (at o) (λ d. links_below enters d a) ++ more in
        ap (λ o. a ∷ once enters rest same other n (after o) (left o)) h.0
        ∙ ap (λ l. a ∷ l) (once-same n (after (inside a.cid)) (left (inside a.cid)) h.1)
