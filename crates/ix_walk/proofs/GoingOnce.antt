-- Not expanding again what was expanded meets nothing new later.
use Rattle.std.proofs.Common.{◌≡◌, ◌⊎◌, inl, inr, ℕ, zero, suc, ◌+◌, ◌≤◌, ◌<◌, Bool, true, false, ◌&&◌, ◌||◌, List, [], ◌∷◌, ◌++◌, length, map, flat_map, refl, sym, ap, ◌∙◌, subst, length-append, arith}
use Rattle.std.specs.Prelude.{Option, Some, None, if◌then◌else◌, bytes_eq}
use Rattle.std.specs.List.{AllByRecursion, list_any}
use Rattle.std.proofs.lemmas.Bool.{and_parts}
use Rattle.std.proofs.lemmas.List.{length-map}
use Rattle.std.proofs.lemmas.List.Concat.{flat_map-append}
use Rattle.std.proofs.lemmas.Slice.Eq.{bytes_eq-Decides}
use Rattle.ix_cbor.specs.Data.{Data}
use Rattle.ix_selector.specs.Enters.{Path}
use Rattle.ix_walk.specs.Arrivals.{Arrival, Inside, when_some, arrivals_from}
use Rattle.ix_walk.specs.Once.{roots_from, links_below, was_expanded, expanded_at, expanded_after, once, once_from, TellsRests, first_ones}
use Rattle.ix_walk.proofs.Firsts.{In, in-append, unseen, and_this, this_seen, still_seen, unseen-behind, unseen-seen, unseen-none}
use Rattle.ix_walk.proofs.Links.{all-append, all-weaker, cid_of, links_at, tree_cids, tree-alike, Ends, ends-links, cids-opened, links-shorter, from-cids, roots-by_depth}

-- the one that passes a test, with what holds of it
pub list_any-found : {E : Type 0} (test : E → Bool) (P : E → Type 0) (gs : List E) → list_any test gs ≡ true → AllByRecursion P gs → (g : E) × P g × (test g ≡ true)
list_any-found test P [] h all = absurd cc
list_any-found test P (g ∷ gs) h all =
    (elim (test g) as (λ b. test g ≡ b → (b || list_any test gs) ≡ true → (g : _) × P g × (test g ≡ true)) [
      | true ↦ λ is _. (g, all.0, is)
      | false ↦ λ _ e. list_any-found test P gs e all.1
    ])
    refl h

-- ---- going in once takes no more arrivals

module _ {R : Type 0} (enters : Path → Bool) (rest : Path → R) (same : R → R → Bool) (inside : Inside) (bound : ℕ) where
  -- with a bound of n visits link-visit-once takes no more than the full traversal
  abbrev IsFewer : ℕ → Type 0
  IsFewer n =
      (expanded : List (List ℕ × R)) (waiting : List Arrival) → AllByRecursion (Ends enters inside bound) waiting
      → length (once enters rest same inside n expanded waiting) ≤ length (flat_map (tree_cids enters inside bound) waiting)

  -- whether or not the first is expanded
  fewer_after : (n : ℕ) → IsFewer n → (expanded : List (List ℕ × R)) (a : Arrival) (more : List Arrival) → AllByRecursion (Ends enters inside bound) (a ∷ more) → (was : Bool)
      → length (once enters rest same inside n (expanded_after enters rest same inside (if was then None else inside a.cid) a expanded) (when_some (if was then None else inside a.cid) (λ d. links_below enters d a) ++ more))
      ≤ length (flat_map (tree_cids enters inside bound) (links_at enters inside a)) + length (flat_map (tree_cids enters inside bound) more)
  fewer_after n fewer expanded a more fit true = let least = fewer expanded more fit.1 in omega (arith, least)
  fewer_after n fewer expanded a more fit false =
      let below = links_at enters inside a in
      let all = fewer (expanded_after enters rest same inside (inside a.cid) a expanded) (below ++ more) (all-append (Ends enters inside bound) below more (ends-links enters inside bound a fit.0) fit.1) in
      let joined : length (flat_map (tree_cids enters inside bound) (below ++ more)) ≡ length (flat_map (tree_cids enters inside bound) below) + length (flat_map (tree_cids enters inside bound) more) =
      ap length (flat_map-append (tree_cids enters inside bound) below more) ∙ length-append (flat_map (tree_cids enters inside bound) below) (flat_map (tree_cids enters inside bound) more) in
      omega (arith, all, joined)

  -- by the bound
  once-fewer : (n : ℕ) → IsFewer n
  once-fewer zero expanded waiting fit = omega arith
  once-fewer (suc n) expanded [] fit = omega arith
  once-fewer (suc n) expanded (a ∷ more) fit =
      let behind = fewer_after n (once-fewer n) expanded a more fit (was_expanded enters rest same inside expanded a) in
      let size : length (tree_cids enters inside bound a ++ flat_map (tree_cids enters inside bound) more) ≡ suc (length (flat_map (tree_cids enters inside bound) (links_at enters inside a))) + length (flat_map (tree_cids enters inside bound) more) =
      length-append (tree_cids enters inside bound a) (flat_map (tree_cids enters inside bound) more) ∙ ap (λ l. length l + length (flat_map (tree_cids enters inside bound) more)) (cids-opened enters inside bound a fit.0) in
      omega (arith, behind, size)

  -- from roots
  pub once-fewer_from : (n : ℕ) (roots : List (List ℕ)) → AllByRecursion (Ends enters inside bound) (roots_from 0 roots) → length (once_from enters rest same inside n roots) ≤ length (arrivals_from enters inside bound 0 roots)
  once-fewer_from n roots fit =
      let fewer = once-fewer n [] (roots_from 0 roots) fit in
      let size : length (arrivals_from enters inside bound 0 roots) ≡ length (flat_map (tree_cids enters inside bound) (roots_from 0 roots)) =
      sym (length-map (arrivals_from enters inside bound 0 roots) cid_of) ∙ ap length (from-cids enters inside bound 0 roots) in
      omega (arith, fewer, size)

-- ---- with a greater bound it only goes on

module _ {R : Type 0} (enters : Path → Bool) (rest : Path → R) (same : R → R → Bool) (inside : Inside) where
  -- a greater bound only appends visits
  pub once-goes_on : (n m : ℕ) → n ≤ m → (expanded : List (List ℕ × R)) (waiting : List Arrival)
      → (more : List Arrival) × (once enters rest same inside n expanded waiting ++ more ≡ once enters rest same inside m expanded waiting)
  once-goes_on zero m h expanded waiting = (once enters rest same inside m expanded waiting, refl)
  once-goes_on (suc n) zero h expanded waiting = absurd (omega (arith, h))
  once-goes_on (suc n) (suc m) h expanded [] = ([], refl)
  once-goes_on (suc n) (suc m) h expanded (a ∷ more) =
      let o : Option Data = expanded_at enters rest same inside expanded a in
      let r = once-goes_on n m (omega (arith, h)) (expanded_after enters rest same inside o a expanded) (when_some o (λ d. links_below enters d a) ++ more) in
      (r.0, ap (λ l. a ∷ l) r.1)

-- ---- it meets the same

module _ {R : Type 0} (enters : Path → Bool) (rest : Path → R) (same : R → R → Bool) (inside : Inside) (tells : TellsRests enters rest same) (bound : ℕ) where
  -- the CIDs of all visits at and below one
  abbrev whole : Arrival → List (List ℕ)
  whole = tree_cids enters inside bound

  -- the visits right below one
  abbrev links : Arrival → List Arrival
  links = links_at enters inside

  -- the traversal at and below the visit ends
  abbrev Fits : Arrival → Type 0
  Fits = Ends enters inside bound

  -- a CID is met below one of these, before any that isn't smaller than this size
  abbrev Soon : ℕ → List ℕ → List Arrival → Type 0
  Soon size c [] = ⊥
  Soon size c (a ∷ more) = (length (whole a) < size) × (In c (whole a) ⊎ Soon size c more)

  -- What was expanded: all below it was seen, or is met before anything that isn't smaller.
  record Entered (seen : List ℕ → Bool) (waiting : List Arrival) (g : List ℕ × R) : Type 0 where
    at : Arrival
    of_cid : at.cid ≡ g.0
    of_rest : rest at.path ≡ g.1
    met : (c : List ℕ) → In c (whole at) → (seen c ≡ true) ⊎ Soon (length (whole at)) c waiting

  -- so it is for all that was expanded
  abbrev AllEntered : (List ℕ → Bool) → List Arrival → List (List ℕ × R) → Type 0
  AllEntered seen waiting = AllByRecursion (Entered seen waiting)

  -- each has a smaller tree below
  abbrev Smaller : ℕ → List Arrival → Type 0
  Smaller size = AllByRecursion (λ a. length (whole a) < size)

  -- a CID below the first ones will be met soon
  soon-front : (size : ℕ) (c : List ℕ) (xs more : List Arrival) → Smaller size xs → In c (flat_map whole xs) → Soon size c (xs ++ more)
  soon-front size c [] more small h = absurd h
  soon-front size c (x ∷ xs) more small h =
      (small.0, elim (in-append c (whole x) (flat_map whole xs) h) [ inl i ↦ inl i | inr i ↦ inr (soon-front size c xs more small.1 i) ])

  -- and so will one after them
  soon-behind : (size : ℕ) (c : List ℕ) (xs more : List Arrival) → Smaller size xs → Soon size c more → Soon size c (xs ++ more)
  soon-behind size c [] more small h = h
  soon-behind size c (x ∷ xs) more small h = (small.0, inr (soon-behind size c xs more small.1 h))

  -- what is below a link is smaller
  links-smaller : (a : Arrival) → Fits a → Smaller (length (whole a)) (links a)
  links-smaller = links-shorter enters inside bound

  module _ (seen : List ℕ → Bool) (a : Arrival) (more : List Arrival) (fits : Fits a) where
    abbrev now : List ℕ → Bool
    now = and_this a.cid seen

    -- a CID at or below the arrival is its own or below a link
    at_or_below : (c : List ℕ) → In c (whole a) → (now c ≡ true) ⊎ In c (flat_map whole (links a))
    at_or_below c h = here (subst (In c) (cids-opened enters inside bound a fits) h) where
      here : In c (a.cid ∷ flat_map whole (links a)) → (now c ≡ true) ⊎ In c (flat_map whole (links a))
      here (inl is) = inl (this_seen a.cid seen c is)
      here (inr i) = inr i

    -- what was expanded earlier, if the visit is expanded
    older : (g : List ℕ × R) → Entered seen (a ∷ more) g → Entered now (links a ++ more) g
    older g e = record { at = e.at; of_cid = e.of_cid; of_rest = e.of_rest; met = λ c i. on c (e.met c i) } where
      small : length (whole a) < length (whole e.at) → Smaller (length (whole e.at)) (links a)
      small lt = all-weaker (λ b. length (whole b) < length (whole a)) (λ b. length (whole b) < length (whole e.at)) (λ b h. omega (arith, lt, h)) (links a) (links-smaller a fits)

      below : (c : List ℕ) → length (whole a) < length (whole e.at) → (now c ≡ true) ⊎ In c (flat_map whole (links a)) → (now c ≡ true) ⊎ Soon (length (whole e.at)) c (links a ++ more)
      below c lt (inl h) = inl h
      below c lt (inr i) = inr (soon-front (length (whole e.at)) c (links a) more (small lt) i)

      next : (c : List ℕ) → length (whole a) < length (whole e.at) → In c (whole a) ⊎ Soon (length (whole e.at)) c more → (now c ≡ true) ⊎ Soon (length (whole e.at)) c (links a ++ more)
      next c lt (inl i) = below c lt (at_or_below c i)
      next c lt (inr s) = inr (soon-behind (length (whole e.at)) c (links a) more (small lt) s)

      on : (c : List ℕ) → (seen c ≡ true) ⊎ Soon (length (whole e.at)) c (a ∷ more) → (now c ≡ true) ⊎ Soon (length (whole e.at)) c (links a ++ more)
      on c (inl h) = inl (still_seen a.cid seen c h)
      on c (inr s) = next c s.0 s.1

    -- and the arrival itself
    newest : Entered now (links a ++ more) (a.cid, rest a.path)
    newest = record { at = a; of_cid = refl; of_rest = refl; met = λ c i. on c (at_or_below c i) } where
      on : (c : List ℕ) → (now c ≡ true) ⊎ In c (flat_map whole (links a)) → (now c ≡ true) ⊎ Soon (length (whole a)) c (links a ++ more)
      on c (inl h) = inl h
      on c (inr i) = inr (soon-front (length (whole a)) c (links a) more (links-smaller a fits) i)

    all_older : (expanded : List (List ℕ × R)) → AllEntered seen (a ∷ more) expanded → AllEntered now (links a ++ more) expanded
    all_older expanded h = all-weaker (Entered seen (a ∷ more)) (Entered now (links a ++ more)) older expanded h

    entered_after : (o : Option Data) (expanded : List (List ℕ × R)) → AllEntered seen (a ∷ more) expanded → AllEntered now (links a ++ more) (expanded_after enters rest same inside o a expanded)
    entered_after None expanded h = all_older expanded h
    entered_after (Some d) expanded h = (newest, all_older expanded h)

    -- all below a visit was seen if its CID was expanded with an equal residual
    expanded-seen : (g : List ℕ × R) → Entered seen (a ∷ more) g → (bytes_eq g.0 a.cid && same g.1 (rest a.path)) ≡ true → (c : List ℕ) → In c (whole a) → seen c ≡ true
    expanded-seen g e is c i =
        let both = and_parts (bytes_eq g.0 a.cid) (same g.1 (rest a.path)) is in
        let cid : e.at.cid ≡ a.cid = e.of_cid ∙ (bytes_eq-Decides g.0 a.cid).0 both.0 in
        let rests : same (rest e.at.path) (rest a.path) ≡ true = ap (λ r. same r (rest a.path)) e.of_rest ∙ both.1 in
        let all : whole e.at ≡ whole a = tree-alike enters inside bound e.at a cid (tells e.at.path a.path rests) in
        first c (ap length all) (e.met c (subst (In c) (sym all) i)) where
          first : (c : List ℕ) → length (whole e.at) ≡ length (whole a) → (seen c ≡ true) ⊎ Soon (length (whole e.at)) c (a ∷ more) → seen c ≡ true
          first c size (inl h) = h
          first c size (inr s) = let lt = s.0 in absurd (omega (arith, size, lt))

    -- what was expanded stays so after a visit that isn't
    passed : ((c : List ℕ) → In c (whole a) → seen c ≡ true) → (g : List ℕ × R) → Entered seen (a ∷ more) g → Entered now more g
    passed all g e = record { at = e.at; of_cid = e.of_cid; of_rest = e.of_rest; met = λ c i. on c (e.met c i) } where
      next : (c : List ℕ) → In c (whole a) ⊎ Soon (length (whole e.at)) c more → (now c ≡ true) ⊎ Soon (length (whole e.at)) c more
      next c (inl i) = inl (still_seen a.cid seen c (all c i))
      next c (inr s) = inr s

      on : (c : List ℕ) → (seen c ≡ true) ⊎ Soon (length (whole e.at)) c (a ∷ more) → (now c ≡ true) ⊎ Soon (length (whole e.at)) c more
      on c (inl h) = inl (still_seen a.cid seen c h)
      on c (inr s) = next c s.1

  -- what n arrivals of the traversal meet anew is what is met anew at every arrival
  abbrev Meets : ℕ → Type 0
  Meets n =
      (expanded : List (List ℕ × R)) (waiting : List Arrival) (seen : List ℕ → Bool) → AllByRecursion Fits waiting → AllEntered seen waiting expanded
      → length (once enters rest same inside n expanded waiting) < n → unseen seen (map cid_of (once enters rest same inside n expanded waiting)) ≡ unseen seen (flat_map whole waiting)

  module _ (n : ℕ) (meets : Meets n) (expanded : List (List ℕ × R)) (a : Arrival) (more : List Arrival) (seen : List ℕ → Bool) (fits : Fits a) (all_fit : AllByRecursion Fits more) (entered : AllEntered seen (a ∷ more) expanded) where
    abbrev data_at : Bool → Option Data
    data_at was = if was then None else inside a.cid

    abbrev left : Bool → List Arrival
    left was = once enters rest same inside n (expanded_after enters rest same inside (data_at was) a expanded) (when_some (data_at was) (λ d. links_below enters d a) ++ more)

    meets_after : (was : Bool) → was_expanded enters rest same inside expanded a ≡ was → length (left was) < n
        → unseen (and_this a.cid seen) (map cid_of (left was)) ≡ unseen (and_this a.cid seen) (flat_map whole (links a) ++ flat_map whole more)
    meets_after false is short =
        meets (expanded_after enters rest same inside (inside a.cid) a expanded) (links a ++ more) (and_this a.cid seen) (all-append Fits (links a) more (ends-links enters inside bound a fits) all_fit) (entered_after seen a more fits (inside a.cid) expanded entered) short
        ∙ ap (unseen (and_this a.cid seen)) (flat_map-append whole (links a) more)
    meets_after true is short =
        let was = list_any-found (λ g. bytes_eq g.0 a.cid && same g.1 (rest a.path)) (Entered seen (a ∷ more)) expanded is entered in
        let all : (c : List ℕ) → In c (whole a) → seen c ≡ true = expanded-seen seen a more fits was.0 was.1 was.2 in
        meets expanded more (and_this a.cid seen) all_fit (all-weaker (Entered seen (a ∷ more)) (Entered (and_this a.cid seen) more) (passed seen a more fits all) expanded entered) short
        ∙ sym (unseen-seen (and_this a.cid seen) (flat_map whole (links a)) (flat_map whole more)
        (λ c i. still_seen a.cid seen c (all c (subst (In c) (sym (cids-opened enters inside bound a fits)) (inr i)))))

  -- by the bound
  once-meets : (n : ℕ) → Meets n
  once-meets zero expanded waiting seen fit entered short = absurd (omega (arith, short))
  once-meets (suc n) expanded [] seen fit entered short = refl
  once-meets (suc n) expanded (a ∷ more) seen fit entered short =
      let was = was_expanded enters rest same inside expanded a in
      unseen-behind seen a.cid (map cid_of (left n (once-meets n) expanded a more seen fit.0 fit.1 entered was)) (flat_map whole (links a) ++ flat_map whole more)
      (meets_after n (once-meets n) expanded a more seen fit.0 fit.1 entered was refl (omega (arith, short)))
      ∙ ap (λ l. unseen seen (l ++ flat_map whole more)) (sym (cids-opened enters inside bound a fit.0))

  -- from roots
  pub once-same : (limit : ℕ) (roots : List (List ℕ)) → AllByRecursion Fits (roots_from 0 roots) → length (once_from enters rest same inside (suc limit) roots) ≤ limit
      → first_ones (map cid_of (once_from enters rest same inside (suc limit) roots)) ≡ first_ones (map cid_of (arrivals_from enters inside bound 0 roots))
  once-same limit roots fit short =
      sym (unseen-none (map cid_of (once_from enters rest same inside (suc limit) roots)))
      ∙ once-meets (suc limit) [] (roots_from 0 roots) (λ (e : List ℕ). false) fit tt (omega (arith, short))
      ∙ unseen-none (flat_map whole (roots_from 0 roots))
      ∙ ap first_ones (sym (from-cids enters inside bound 0 roots))

  -- the same if the full traversal is never as deep as the bound: both meet the same CIDs first, if link-visit-once ends
  pub once-by_depth : (limit : ℕ) (roots : List (List ℕ)) → AllByRecursion (λ a. a.depth < bound) (arrivals_from enters inside bound 0 roots) → length (once_from enters rest same inside (suc limit) roots) ≤ limit
      → first_ones (map cid_of (once_from enters rest same inside (suc limit) roots)) ≡ first_ones (map cid_of (arrivals_from enters inside bound 0 roots))
  once-by_depth limit roots shallow short = once-same limit roots (roots-by_depth enters inside bound roots shallow) short
