-- When link-visit-once ends, it has visited all that can be reached.
use Rattle.std.proofs.Common.{◌≡◌, ◌⊎◌, inl, inr, ℕ, zero, suc, ◌+◌, ◌-◌, min, ◌≤◌, ◌<◌, Bool, true, false, ◌&&◌, List, [], ◌∷◌, ◌++◌, length, map, flat_map, refl, sym, ap, ◌∙◌, subst, arith}
use Rattle.std.specs.Prelude.{◌↔◌, Option, Some, None, if◌then◌else◌, bytes_eq}
use Rattle.std.specs.List.{AllByRecursion, Contains}
use Rattle.std.proofs.lemmas.Bool.{and_parts}
use Rattle.std.proofs.lemmas.List.Elements.{Contains-append_left, Contains-append_right, Contains-append_cases, Contains-push, Contains-push_cases}
use Rattle.std.proofs.lemmas.Slice.Eq.{bytes_eq-Decides}
use Rattle.ix_cbor.specs.Data.{Data}
use Rattle.ix_selector.specs.Enters.{Path}
use Rattle.ix_walk.specs.Arrivals.{Arrival, Inside, when_some, arrivals_from}
use Rattle.ix_walk.specs.Once.{roots_from, links_below, was_expanded, expanded_after, once, once_from, TellsRests}
use Rattle.ix_walk.proofs.Firsts.{In, in-append}
use Rattle.ix_walk.proofs.Links.{all-append, all-left, all-right, all-weaker, all-both, flat_map-same, cid_of, Alike, links_at, tree_cids, tree-alike, cids-links, Ends, ends-links, cids-opened, links-shorter, from-cids}
use Rattle.ix_walk.proofs.GoingOnce.{list_any-found}

-- an element of the first list is in the concatenation
in-left : (c : List ℕ) (xs ys : List (List ℕ)) → In c xs → In c (xs ++ ys)
in-left c [] ys h = absurd h
in-left c (x ∷ xs) ys (inl is) = inl is
in-left c (x ∷ xs) ys (inr h) = inr (in-left c xs ys h)

-- and so is one of the second
in-right : (c : List ℕ) (xs ys : List (List ℕ)) → In c ys → In c (xs ++ ys)
in-right c [] ys h = h
in-right c (x ∷ xs) ys h = inr (in-right c xs ys h)

-- the two ways to say that a CID is in a list
pub contains-in : (c : List ℕ) (xs : List (List ℕ)) → In c xs → Contains xs c
contains-in c [] h = absurd h
contains-in c (x ∷ xs) (inl is) = subst (Contains (x ∷ xs)) is (Contains-append_left (x ∷ []) xs x (Contains-push [] x))
contains-in c (x ∷ xs) (inr h) = Contains-append_right (x ∷ []) xs c (contains-in c xs h)

-- and back
pub in-contains : (c : List ℕ) (xs : List (List ℕ)) → Contains xs c → In c xs
in-contains c [] h = let far = h.1 in absurd (omega (arith, far))
in-contains c (x ∷ xs) h = elim (Contains-append_cases (x ∷ []) xs c h) [ inl i ↦ inl (only (Contains-push_cases [] x c i)) | inr i ↦ inr (in-contains c xs i) ] where
  only : Contains {X = List ℕ} [] c ⊎ (x ≡ c) → x ≡ c
  only (inl none) = let far = none.1 in absurd (omega (arith, far))
  only (inr is) = is

-- what is in a part is in all of them
parts-in : {X : Type 0} (f : ℕ → X → List (List ℕ)) (xs : List X) → AllByRecursion (λ x. (m : ℕ) (c : List ℕ) → In c (f m x) → In c (flat_map (f m) xs)) xs
parts-in f [] = tt
parts-in f (x ∷ xs) = (
  λ m c i. in-left c (f m x) (flat_map (f m) xs) i,
  all-weaker (λ y. (m : ℕ) (c : List ℕ) → In c (f m y) → In c (flat_map (f m) xs)) (λ y. (m : ℕ) (c : List ℕ) → In c (f m y) → In c (f m x ++ flat_map (f m) xs))
      (λ y h m c i. in-right c (f m x) (flat_map (f m) xs) (h m c i)) xs (parts-in f xs),
)

-- what holds for each number holds for all at once
all-each : {X : Type 0} (P : ℕ → X → Type 0) (xs : List X) → ((k : ℕ) → AllByRecursion (P k) xs) → AllByRecursion (λ x. (k : ℕ) → P k x) xs
all-each P [] h = tt
all-each P (x ∷ xs) h = (λ k. (h k).0, all-each P xs (λ k. (h k).1))

-- ---- how many are no greater

module _ {X : Type 0} (size : X → ℕ) where
  -- how many have a size of at most a number
  abbrev count : ℕ → List X → ℕ
  count s [] = 0
  count s (x ∷ xs) = min 1 (suc s - size x) + count s xs

  -- a greater number counts no fewer
  count-more : (t s : ℕ) → t ≤ s → (xs : List X) → count t xs ≤ count s xs
  count-more t s h [] = omega arith
  count-more t s h (x ∷ xs) = let more = count-more t s h xs in omega (arith, more, h)

  -- the count is at most the length
  count-length : (s : ℕ) (xs : List X) → count s xs ≤ length xs
  count-length s [] = omega arith
  count-length s (x ∷ xs) = let more = count-length s xs in omega (arith, more)

  -- for each element, its own size counts more than any smaller number, as it counts the element
  count-step : (xs : List X) → AllByRecursion (λ x. (t : ℕ) → t < size x → count t xs < count (size x) xs) xs
  count-step [] = tt
  count-step (x ∷ xs) = (
    λ t less. (let more = count-more t (size x) (omega (arith, less)) xs in omega (arith, more, less)),
    all-weaker (λ y. (t : ℕ) → t < size y → count t xs < count (size y) xs) (λ y. (t : ℕ) → t < size y → min 1 (suc t - size x) + count t xs < min 1 (suc (size y) - size x) + count (size y) xs)
        (λ y h t less. let more = h t less in omega (arith, more, less)) xs (count-step xs),
  )

module _ {R : Type 0} (enters : Path → Bool) (rest : Path → R) (same : R → R → Bool) (inside : Inside) where
  -- the visits right below one
  abbrev links : Arrival → List Arrival
  links = links_at enters inside

  -- the first visits by link-visit-once
  abbrev run : ℕ → List (List ℕ × R) → List Arrival → List Arrival
  run = once enters rest same inside

  -- the same, by whether the CID of the first visit was expanded
  abbrev run_after : ℕ → List (List ℕ × R) → Arrival → List Arrival → Bool → List Arrival
  run_after n expanded a more was =
      run n (expanded_after enters rest same inside (if was then None else inside a.cid) a expanded) (when_some (if was then None else inside a.cid) (λ d. links_below enters d a) ++ more)

  -- ---- what is arrived at can be reached

  module _ (P : Arrival → Type 0) (below : (a : Arrival) → P a → AllByRecursion P (links a)) where
    run-keeps : (n : ℕ) (expanded : List (List ℕ × R)) (waiting : List Arrival) → AllByRecursion P waiting → AllByRecursion P (run n expanded waiting)
    run-keeps zero expanded waiting h = tt
    run-keeps (suc n) expanded [] h = tt
    run-keeps (suc n) expanded (a ∷ more) h = (
      h.0,
      elim (was_expanded enters rest same inside expanded a) as (λ b. AllByRecursion P (run_after n expanded a more b)) [
        | true ↦ run-keeps n expanded more h.1
        | false ↦ run-keeps n (expanded_after enters rest same inside (inside a.cid) a expanded) (links a ++ more) (all-append P (links a) more (below a h.0) h.1)
      ],
    )

  -- ---- what waits is arrived at, where the traversal ends

  module _ (P : Arrival → Type 0) where
    run-waiting : (n : ℕ) (expanded : List (List ℕ × R)) (waiting : List Arrival) → length (run n expanded waiting) < n → AllByRecursion P (run n expanded waiting) → AllByRecursion P waiting
    run-waiting zero expanded waiting short h = absurd (omega (arith, short))
    run-waiting (suc n) expanded [] short h = tt
    run-waiting (suc n) expanded (a ∷ more) short h = (
      h.0,
      (elim (was_expanded enters rest same inside expanded a) as (λ b. length (run_after n expanded a more b) < n → AllByRecursion P (run_after n expanded a more b) → AllByRecursion P more) [
        | true ↦ λ less all. run-waiting n expanded more less all
        | false ↦ λ less all. all-right P (links a) more (run-waiting n (expanded_after enters rest same inside (inside a.cid) a expanded) (links a ++ more) less all)
      ]) (omega (arith, short)) h.1,
    )

  -- ---- and so is what is below each arrival

  module _ (P : Arrival → Type 0) where
    -- if the CID was expanded with an equal residual, it holds of all links below
    record IsClosed (a : Arrival) : Type 0 where
      pub at : Arrival
      pub of_cid : at.cid ≡ a.cid
      pub alike : Alike enters at.path a.path
      pub here : P at
      pub below : AllByRecursion P (links at)

    record WasEntered (g : List ℕ × R) : Type 0 where
      at : Arrival
      of_cid : at.cid ≡ g.0
      of_rest : rest at.path ≡ g.1
      here : P at
      below : AllByRecursion P (links at)

    closed_by : TellsRests enters rest same → (g : List ℕ × R) (a : Arrival) → WasEntered g → (bytes_eq g.0 a.cid && same g.1 (rest a.path)) ≡ true → IsClosed a
    closed_by tells g a e is =
        let both = and_parts (bytes_eq g.0 a.cid) (same g.1 (rest a.path)) is in record {
          at = e.at;
          of_cid = e.of_cid ∙ (bytes_eq-Decides g.0 a.cid).0 both.0;
          alike = tells e.at.path a.path (ap (λ r. same r (rest a.path)) e.of_rest ∙ both.1);
          here = e.here;
          below = e.below;
        }

    entered_too : (o : Option Data) (a : Arrival) (expanded : List (List ℕ × R)) → P a → AllByRecursion P (links a) → AllByRecursion WasEntered expanded → AllByRecursion WasEntered (expanded_after enters rest same inside o a expanded)
    entered_too None a expanded here below h = h
    entered_too (Some d) a expanded here below h = (record { at = a; of_cid = refl; of_rest = refl; here = here; below = below }, h)

    run-closed : TellsRests enters rest same → (n : ℕ) (expanded : List (List ℕ × R)) (waiting : List Arrival) → length (run n expanded waiting) < n → AllByRecursion P (run n expanded waiting) → AllByRecursion WasEntered expanded → AllByRecursion IsClosed (run n expanded waiting)
    run-closed tells zero expanded waiting short h entered = tt
    run-closed tells (suc n) expanded [] short h entered = tt
    run-closed tells (suc n) expanded (a ∷ more) short h entered =
        (elim (was_expanded enters rest same inside expanded a) as (λ b. was_expanded enters rest same inside expanded a ≡ b → length (run_after n expanded a more b) < n → AllByRecursion P (run_after n expanded a more b) → IsClosed a × AllByRecursion IsClosed (run_after n expanded a more b)) [
          | true ↦ λ is less all.
              let was = list_any-found (λ g. bytes_eq g.0 a.cid && same g.1 (rest a.path)) WasEntered expanded is entered in
              (closed_by tells was.0 a was.1 was.2, run-closed tells n expanded more less all entered)
          | false ↦ λ isnt less all.
              let now = expanded_after enters rest same inside (inside a.cid) a expanded in
              let below : AllByRecursion P (links a) = all-left P (links a) more (run-waiting P n now (links a ++ more) less all) in
              (record { at = a; of_cid = refl; alike = λ r. refl; here = h.0; below = below }, run-closed tells n now (links a ++ more) less all (entered_too (inside a.cid) a expanded h.0 below entered))
        ]) refl (omega (arith, short)) h.1

  -- ---- all that is reached is among the arrivals of a traversal that ended

  module _ (tells : TellsRests enters rest same) (limit : ℕ) (roots : List (List ℕ)) (short : length (once_from enters rest same inside (suc limit) roots) ≤ limit) where
    abbrev all : List Arrival
    all = once_from enters rest same inside (suc limit) roots

    closed : (P : Arrival → Type 0) → AllByRecursion P all → AllByRecursion (IsClosed P) all
    closed P h = run-closed P tells (suc limit) [] (roots_from 0 roots) (omega (arith, short)) h tt

    roots-met : (P : Arrival → Type 0) → AllByRecursion P all → AllByRecursion P (roots_from 0 roots)
    roots-met P h = run-waiting P (suc limit) [] (roots_from 0 roots) (omega (arith, short)) h

    abbrev Within : ℕ → Arrival → Type 0
    Within m a = (c : List ℕ) → In c (tree_cids enters inside m a) → In c (map cid_of all)

    parts-within : (m : ℕ) (xs : List Arrival) → AllByRecursion (Within m) xs → (c : List ℕ) → In c (flat_map (tree_cids enters inside m) xs) → In c (map cid_of all)
    parts-within m [] h c i = absurd i
    parts-within m (x ∷ xs) h c i = elim (in-append c (tree_cids enters inside m x) (flat_map (tree_cids enters inside m) xs) i) [ inl j ↦ h.0 c j | inr j ↦ parts-within m xs h.1 c j ]

    cids-in : (xs : List Arrival) → AllByRecursion (λ a. In a.cid (map cid_of xs)) xs
    cids-in [] = tt
    cids-in (x ∷ xs) = (inl refl, all-weaker (λ a. In a.cid (map cid_of xs)) (λ a. In a.cid (x.cid ∷ map cid_of xs)) (λ a h. inr h) xs (cids-in xs))

    closed-within : (m : ℕ) (a : Arrival) → IsClosed (Within m) a × In a.cid (map cid_of all) → Within (suc m) a
    closed-within m a h c i =
        here (subst (In c) (sym (tree-alike enters inside (suc m) h.0.at a h.0.of_cid h.0.alike) ∙ cids-links enters inside m h.0.at) i) where
          here : In c (h.0.at.cid ∷ flat_map (tree_cids enters inside m) (links h.0.at)) → In c (map cid_of all)
          here (inl is) = subst (λ e. In e (map cid_of all)) (sym h.0.of_cid ∙ is) h.1
          here (inr j) = parts-within m (links h.0.at) h.0.below c j

    -- below each arrival
    all-within : (m : ℕ) → AllByRecursion (Within m) all
    all-within zero = all-weaker (λ a. In a.cid (map cid_of all)) (Within 0) (λ a h c i. first a h c i) all (cids-in all) where
      first : (a : Arrival) → In a.cid (map cid_of all) → (c : List ℕ) → In c (a.cid ∷ []) → In c (map cid_of all)
      first a h c (inl is) = subst (λ e. In e (map cid_of all)) is h
      first a h c (inr none) = absurd none
    all-within (suc m) =
        all-weaker (λ a. IsClosed (Within m) a × In a.cid (map cid_of all)) (Within (suc m)) (closed-within m) all
        (all-both (IsClosed (Within m)) (λ a. In a.cid (map cid_of all)) all (closed (Within m) (all-within m)) (cids-in all))

    -- what is reached, however many links are crossed, is arrived at
    pub reached-met : (m : ℕ) (c : List ℕ) → In c (map cid_of (arrivals_from enters inside m 0 roots)) → In c (map cid_of all)
    reached-met m c i =
        parts-within m (roots_from 0 roots) (roots-met (Within m) (all-within m)) c (subst (In c) (from-cids enters inside m 0 roots) i)

    -- ---- and nothing else is

    -- all of its tree is reached, where so many links more are crossed
    record IsReached (a : Arrival) : Type 0 where
      more : ℕ
      reached : (m : ℕ) (c : List ℕ) → In c (tree_cids enters inside m a) → In c (flat_map (tree_cids enters inside (more + m)) (roots_from 0 roots))

    links-reached : (a : Arrival) → IsReached a → AllByRecursion IsReached (links a)
    links-reached a h =
        all-weaker (λ b. (m : ℕ) (c : List ℕ) → In c (tree_cids enters inside m b) → In c (flat_map (tree_cids enters inside m) (links a))) IsReached
        (λ b g. record {
          more = h.more + 1;
          reached = λ m c i.
              let deeper : h.more + suc m ≡ h.more + 1 + m = omega arith in
              subst (λ k. In c (flat_map (tree_cids enters inside k) (roots_from 0 roots))) deeper (h.reached (suc m) c (subst (In c) (sym (cids-links enters inside m a)) (inr (g m c i))));
        }) (links a) (parts-in (tree_cids enters inside) (links a))

    roots-reached : AllByRecursion IsReached (roots_from 0 roots)
    roots-reached =
        all-weaker (λ b. (m : ℕ) (c : List ℕ) → In c (tree_cids enters inside m b) → In c (flat_map (tree_cids enters inside m) (roots_from 0 roots))) IsReached
        (λ b g. record { more = 0; reached = λ m c i. let same : m ≡ 0 + m = omega arith in subst (λ k. In c (flat_map (tree_cids enters inside k) (roots_from 0 roots))) same (g m c i) }) (roots_from 0 roots) (parts-in (tree_cids enters inside) (roots_from 0 roots))

    -- what is arrived at is reached
    pub met-reached : (c : List ℕ) → In c (map cid_of all) → (m : ℕ) × In c (map cid_of (arrivals_from enters inside m 0 roots))
    met-reached c i = among all (run-keeps IsReached links-reached (suc limit) [] (roots_from 0 roots) roots-reached) i where
      among : (xs : List Arrival) → AllByRecursion IsReached xs → In c (map cid_of xs) → (m : ℕ) × In c (map cid_of (arrivals_from enters inside m 0 roots))
      among [] h j = absurd j
      among (x ∷ xs) h (inl is) = (h.0.more + 0, subst (In c) (sym (from-cids enters inside (h.0.more + 0) 0 roots)) (h.0.reached 0 c (inl is)))
      among (x ∷ xs) h (inr j) = among xs h.1 j

    -- ---- no more links are crossed than there are arrivals, where no CID leads back to itself

    module _ (bound : ℕ) (ends : AllByRecursion (Ends enters inside bound) (roots_from 0 roots)) where
      abbrev whole : Arrival → List (List ℕ)
      whole = tree_cids enters inside bound

      abbrev size : Arrival → ℕ
      size a = length (whole a)

      -- where at least as many links are crossed as there are arrivals with no greater tree, nothing is cut off
      abbrev IsShallow : Arrival → Type 0
      IsShallow a = (m : ℕ) → count size (size a) all ≤ m → tree_cids enters inside m a ≡ whole a

      abbrev IsStep : Arrival → Type 0
      IsStep a = (t : ℕ) → t < size a → count size t all < count size (size a) all

      -- a tree up to this size
      record Small (k : ℕ) (a : Arrival) : Type 0 where
        ended : Ends enters inside bound a
        step : IsStep a
        shallow : size a ≤ k → IsShallow a

      shallow-parts : (k m : ℕ) (a at : Arrival) → size at ≡ size a → size a ≤ suc k → count size (size a) all ≤ suc m → IsStep a → (bs : List Arrival) → AllByRecursion (Small k) bs → AllByRecursion (λ b. size b < size at) bs
          → AllByRecursion (λ b. tree_cids enters inside m b ≡ whole b) bs
      shallow-parts k m a at same small few step [] h less = tt
      shallow-parts k m a at same small few step (b ∷ bs) h less =
          let l = less.0 in let fewer = step (size b) (omega (arith, same, l)) in
          (h.0.shallow (omega (arith, same, l, small)) m (omega (arith, fewer, few)), shallow-parts k m a at same small few step bs h.1 less.1)

      shallow_at : (k : ℕ) (a : Arrival) → IsClosed (Small k) a → IsStep a → size a ≤ suc k → IsShallow a
      shallow_at k a h step small zero few =
          let opened : length (whole h.at) ≡ suc (length (flat_map whole (links h.at))) = ap length (cids-opened enters inside bound h.at h.here.ended) in
          let same : size h.at ≡ size a = ap length (tree-alike enters inside bound h.at a h.of_cid h.alike) in
          let some = step 0 (omega (arith, opened, same)) in absurd (omega (arith, some, few))
      shallow_at k a h step small (suc m) few =
          let same : whole h.at ≡ whole a = tree-alike enters inside bound h.at a h.of_cid h.alike in
          sym (tree-alike enters inside (suc m) h.at a h.of_cid h.alike)
          ∙ cids-links enters inside m h.at
          ∙ ap (λ l. h.at.cid ∷ l) (flat_map-same (tree_cids enters inside m) whole (links h.at) (shallow-parts k m a h.at (ap length same) small few step (links h.at) h.below (links-shorter enters inside bound h.at h.here.ended)))
          ∙ sym (cids-opened enters inside bound h.at h.here.ended)
          ∙ same

      all-ended : AllByRecursion (Ends enters inside bound) all
      all-ended = run-keeps (Ends enters inside bound) (ends-links enters inside bound) (suc limit) [] (roots_from 0 roots) ends

      all-small : (k : ℕ) → AllByRecursion (Small k) all
      all-small zero =
          all-weaker (λ a. Ends enters inside bound a × IsStep a) (Small 0)
          (λ a h. record {
            ended = h.0;
            step = h.1;
            shallow = λ small. (let opened : length (whole a) ≡ suc (length (flat_map whole (links a))) = ap length (cids-opened enters inside bound a h.0) in absurd (omega (arith, opened, small)));
          }) all (all-both (Ends enters inside bound) IsStep all all-ended (count-step size all))
      all-small (suc k) =
          all-weaker (λ a. IsClosed (Small k) a × (Ends enters inside bound a × IsStep a)) (Small (suc k))
          (λ a h. record { ended = h.1.0; step = h.1.1; shallow = shallow_at k a h.0 h.1.1 }) all
          (all-both (IsClosed (Small k)) (λ a. Ends enters inside bound a × IsStep a) all (closed (Small k) (all-small k)) (all-both (Ends enters inside bound) IsStep all all-ended (count-step size all)))

      -- so as many as the limit are enough
      pub limit-cids : map cid_of (arrivals_from enters inside limit 0 roots) ≡ map cid_of (arrivals_from enters inside bound 0 roots)
      limit-cids =
          from-cids enters inside limit 0 roots
          ∙ flat_map-same (tree_cids enters inside limit) whole (roots_from 0 roots)
          (all-weaker (λ a. (k : ℕ) → Small k a) (λ a. tree_cids enters inside limit a ≡ whole a)
          (λ a h. (h (size a)).shallow (omega arith) limit (let few = count-length size (size a) all in omega (arith, few, short))) (roots_from 0 roots)
          (all-each Small (roots_from 0 roots) (λ k. roots-met (Small k) (all-small k))))
          ∙ sym (from-cids enters inside bound 0 roots)

    pub once-reaches : (c : List ℕ) → Contains (map cid_of all) c ↔ ((m : ℕ) × Contains (map cid_of (arrivals_from enters inside m 0 roots)) c)
    once-reaches c = (
      λ h. (let r = met-reached c (in-contains c (map cid_of all) h) in (r.0, contains-in c (map cid_of (arrivals_from enters inside r.0 0 roots)) r.1)),
      λ h. contains-in c (map cid_of all) (reached-met h.0 c (in-contains c (map cid_of (arrivals_from enters inside h.0 0 roots)) h.1)),
    )
