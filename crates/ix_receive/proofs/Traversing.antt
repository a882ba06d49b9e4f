-- A traversal by lists, from visit to visit, over sections that grow.
use Rattle.std.proofs.Common.{◌≡◌, ℕ, zero, suc, ◌+◌, ◌-◌, ◌≤◌, ◌<◌, Bool, true, false, List, [], ◌∷◌, ◌++◌, length, map, take, drop, take-append-drop, refl, sym, ◌∙◌, ap, subst, append_assoc, append-nil, arith}
use Rattle.std.specs.Prelude.{Option, Some, None, nat_lt, if◌then◌else◌, bytes_eq}
use Rattle.std.specs.List.{Contains}
use Rattle.std.proofs.lemmas.Bool.Decides.{nat_tests}
use Rattle.std.proofs.lemmas.List.{append_cancel_left, map-append, length-append, length-map}
use Rattle.std.proofs.lemmas.List.Elements.{Contains-append_left, Contains-push}
use Rattle.std.proofs.lemmas.Slice.Eq.{bytes_eq-Decides}
use Rattle.ix_cid.specs.Cid.{parts_of, hash_function_of}
use Rattle.ix_selector.specs.IsEntered.{is_entered}
use Rattle.ix_selector.specs.Pattern.{Pattern}
use Rattle.ix_selector.specs.Behind.{residual_at, same_residual}
use Rattle.ix_store.specs.Store.{Blocks, block_of}
use Rattle.ix_walk.specs.declared.subtree.PendingLink.{PendingLink}
use Rattle.ix_walk.specs.JobMeaning.{JobMeaning}
use Rattle.ix_walk.specs.Arrivals.{Arrival}
use Rattle.ix_walk.specs.Visits.{is_over_limit}
use Rattle.ix_walk.specs.Once.{roots_from, cids_of, sound_value}
use Rattle.ix_walk.specs.Walking.{waiting, Going, nothing_expanded, data_inside, expanded_after, links_inside, first_arrivals, root_link, NoDeeper}
use Rattle.ix_walk.proofs.Links.{cid_of}
use Rattle.ix_walk.proofs.Reached.{forget, once_first, all_append, all_inside}
use Rattle.ix_walk.proofs.Starts.{IsFollowed}
use Rattle.ix_car.specs.Laws.{once}
use Rattle.ix_receive.specs.Receiving.{first_visits}
use Rattle.ix_receive.specs.Traversal.{visited, HasSameAt, GoesOnWith, IsTraversed}
use Rattle.ix_receive.proofs.Again.{value_in}
use Rattle.ix_receive.proofs.Visits.{fewer-visits}

-- visits show neither a root nor a path
forget-cids : (xs : List Arrival) → cids_of (map forget xs) ≡ cids_of xs
forget-cids [] = refl
forget-cids (x ∷ xs) = ap (λ cs. x.cid ∷ cs) (forget-cids xs)

-- roots have depth 0
roots-deep : (selector : Pattern) (roots : List (List ℕ)) → NoDeeper 0 (map (root_link selector) roots)
roots-deep selector [] = tt
roots-deep selector (c ∷ cs) = (omega arith, roots-deep selector cs)

-- one CID more
one-more : (cs : List (List ℕ)) (c : List ℕ) (n : ℕ) → length cs ≡ n → length (cs ++ c ∷ []) ≡ suc n
one-more cs c n is = let all : length (cs ++ c ∷ []) ≡ length cs + 1 = length-append cs (c ∷ []) in omega (arith, all, is)

-- a number is within a limit
within : (limit n : ℕ) → n ≤ limit → nat_lt limit n ≡ false
within limit n h = grind (arith, nat_tests)

-- or beyond it
beyond : (limit n : ℕ) → n ≡ limit → nat_lt limit (suc n) ≡ true
beyond limit n h = grind (arith, nat_tests)

-- before the first visit the roots wait
pub begins : (job : JobMeaning) (store : Blocks) (expanded : Going) → IsFollowed job.selector → expanded ≡ nothing_expanded → IsTraversed 0 job store expanded (map (root_link job.selector) job.roots)
begins job store expanded is none = record {
  low = omega arith;
  counted = refl;
  goes_on = λ other same m.
      let one : 0 + m ≡ m = omega arith in
      ap (λ k. visited k job other) one
      ∙ sym (forget-cids (first_visits m job other))
      ∙ ap cids_of (sym (once_first (is_entered job.selector) (residual_at job.selector) is.stays is.goes other m job.roots))
      ∙ ap (λ r. cids_of (first_arrivals other (Some nothing_expanded) m (map (waiting r 0) job.roots))) is.starts
      ∙ ap (λ g. cids_of (first_arrivals other (Some g) m (map (root_link job.selector) job.roots))) (sym none);
  deep = roots-deep job.selector job.roots;
}

-- ---- one visit more

module _ (n : ℕ) (job : JobMeaning) (sections : Blocks) (expanded : Going) (f : PendingLink) (rest : List PendingLink) (is : IsTraversed n job sections expanded (f ∷ rest)) where
  -- it is of the first link
  pub visits-one : visited (suc n) job sections ≡ visited n job sections ++ f.cid ∷ []
  visits-one = let one : suc n ≡ n + 1 = omega arith in ap (λ k. visited k job sections) one ∙ is.goes_on sections (λ c i. refl) 1

  abbrev fewer : List Arrival
  fewer = first_visits n job sections

  abbrev more : List Arrival
  more = first_visits (suc n) job sections

  -- fewer visits are the first of more
  front : fewer ≡ take n more
  front = fewer-visits (is_entered job.selector) (residual_at job.selector) same_residual (sound_value sections) n (suc n) (omega arith) [] (roots_from 0 job.roots)

  parts : more ≡ fewer ++ drop n more
  parts = sym (take-append-drop n more) ∙ ap (λ l. l ++ drop n more) (sym front)

  cids : cids_of fewer ++ cids_of (drop n more) ≡ cids_of fewer ++ f.cid ∷ []
  cids = sym (map-append cid_of fewer (drop n more)) ∙ ap cids_of (sym parts) ∙ visits-one

  -- and its visit has that CID
  pub next-visit : (visit : Arrival) × (first_visits (suc n) job sections ≡ first_visits n job sections ++ visit ∷ []) × (visit.cid ≡ f.cid)
  next-visit = by (drop n more) refl (append_cancel_left (cids_of fewer) (cids_of (drop n more)) (f.cid ∷ []) cids) where
    by : (l : List Arrival) → drop n more ≡ l → cids_of (drop n more) ≡ f.cid ∷ [] → (visit : Arrival) × (first_visits (suc n) job sections ≡ first_visits n job sections ++ visit ∷ []) × (visit.cid ≡ f.cid)
    by [] at e = absurd (let bad : [] ≡ f.cid ∷ [] = ap cids_of (sym at) ∙ e in cc bad)
    by (v ∷ []) at e = (v, parts ∙ ap (λ l. fewer ++ l) at, (let named : v.cid ∷ [] ≡ f.cid ∷ [] = ap cids_of (sym at) ∙ e in cc named))
    by (v ∷ w ∷ l) at e = absurd (let bad : v.cid ∷ w.cid ∷ cids_of l ≡ f.cid ∷ [] = ap cids_of (sym at) ∙ e in cc bad)

  abbrev inside : List PendingLink
  inside = links_inside f.residual (f.depth + 1) (data_inside sections (Some expanded) f)

  -- it is made, and what is below it comes first
  pub steps : (has : Going) (new : List PendingLink) → n < job.limit → Some has ≡ expanded_after (data_inside sections (Some expanded) f) f (Some expanded)
      → new ≡ links_inside f.residual (f.depth + 1) (data_inside sections (Some expanded) f) ++ rest → IsTraversed (suc n) job sections has new
  steps has new lt after put = record {
    low = omega (arith, lt);
    counted = ap length visits-one ∙ one-more (visited n job sections) f.cid n is.counted;
    goes_on = goes;
    deep =
        subst (NoDeeper (suc n)) (sym put)
        (all_append (λ k. k ≤ suc n) inside rest (all_inside (λ k. k ≤ suc n) (f.depth + 1) low f.residual (data_inside sections (Some expanded) f)) (deeper_too rest is.deep.1));
  } where
    low : f.depth + 1 ≤ suc n
    low = let h = is.deep.0 in omega arith

    deeper_too : (links : List PendingLink) → NoDeeper n links → NoDeeper (suc n) links
    deeper_too [] d = tt
    deeper_too (g ∷ links) d = (let h = d.0 in omega (arith, h), deeper_too links d.1)

    goes : GoesOnWith (suc n) job sections has new
    goes other same m =
        let count : suc n + m ≡ n + suc m = omega arith in
        let before : HasSameAt (visited n job sections) sections other = λ c i. same c (subst (λ l. Contains l c) (sym visits-one) (Contains-append_left (visited n job sections) (f.cid ∷ []) c i)) in
        let here : sound_value other f.cid ≡ sound_value sections f.cid = same f.cid (subst (λ l. Contains l f.cid) (sym visits-one) (Contains-push (visited n job sections) f.cid)) in
        ap (λ k. visited k job other) count ∙ is.goes_on other before (suc m)
        ∙ ap (λ o. visited n job sections ++ f.cid ∷ cids_of (first_arrivals other (expanded_after (if expanded f.cid f.residual then None else o) f (Some expanded)) m (links_inside f.residual (f.depth + 1) (if expanded f.cid f.residual then None else o) ++ rest))) here
        ∙ ap (λ g. visited n job sections ++ f.cid ∷ cids_of (first_arrivals other g m (inside ++ rest))) (sym after)
        ∙ ap (λ l. visited n job sections ++ f.cid ∷ cids_of (first_arrivals other (Some has) m l)) (sym put)
        ∙ sym (append_assoc (visited n job sections) (f.cid ∷ []) (cids_of (first_arrivals other (Some has) m new)))
        ∙ ap (λ l. l ++ cids_of (first_arrivals other (Some has) m new)) (sym visits-one)

-- ---- a section more

module _ (sections : Blocks) (p : List ℕ × List ℕ) where
  -- a block under another CID is the same
  pub other-block : (s : Blocks) (c : List ℕ) → bytes_eq p.0 c ≡ false → block_of (s ++ p ∷ []) c ≡ block_of s c
  other-block [] c isnt = ap (λ b. if b then Some p.1 else None) isnt
  other-block (e ∷ es) c isnt = ap (λ o. if bytes_eq e.0 c then Some e.1 else o) (other-block es c isnt)

  pub kept-block : (c : List ℕ) → (p.0 ≡ c → ⊥) → block_of (sections ++ p ∷ []) c ≡ block_of sections c
  kept-block c differ = by (bytes_eq p.0 c) refl where
    by : (b : Bool) → bytes_eq p.0 c ≡ b → block_of (sections ++ p ∷ []) c ≡ block_of sections c
    by true is = absurd (differ ((bytes_eq-Decides p.0 c).0 is))
    by false isnt = other-block sections c isnt

  -- so are the data
  pub kept-value : (c : List ℕ) → (p.0 ≡ c → ⊥) → sound_value (sections ++ p ∷ []) c ≡ sound_value sections c
  kept-value c differ = ap (value_in (hash_function_of (parts_of c)) c) (kept-block c differ)

module _ (n : ℕ) (job : JobMeaning) (sections : Blocks) (expanded : Going) (links : List PendingLink) (p : List ℕ × List ℕ) (is : IsTraversed n job sections expanded links) (new : Contains (visited n job sections) p.0 → ⊥) where
  abbrev grown : Blocks
  grown = sections ++ p ∷ []

  -- what was visited has the same data
  same-data : HasSameAt (visited n job sections) sections grown
  same-data c i = kept-value sections p c (λ e. new (subst (Contains (visited n job sections)) (sym e) i))

  pub grown-visits : visited n job grown ≡ visited n job sections
  grown-visits = let none : n + 0 ≡ n = omega arith in ap (λ k. visited k job grown) (sym none) ∙ is.goes_on grown same-data 0 ∙ append-nil (visited n job sections)

  pub grows : IsTraversed n job grown expanded links
  grows = record {
    low = is.low;
    counted = ap length grown-visits ∙ is.counted;
    goes_on = λ other same m.
        is.goes_on other (λ c i. same c (subst (λ l. Contains l c) (sym grown-visits) i) ∙ same-data c i) m ∙ ap (λ l. l ++ cids_of (first_arrivals other (Some expanded) m links)) (sym grown-visits);
    deep = is.deep;
  }

-- ---- the end

-- no visit follows if no link waits
none-left : (store : Blocks) (had : Option Going) (m : ℕ) → cids_of (first_arrivals store had m []) ≡ []
none-left store had zero = refl
none-left store had (suc m) = refl

-- all visits were made
pub ends-visits : (n m : ℕ) (job : JobMeaning) (sections : Blocks) (expanded : Going) → n ≤ m → IsTraversed n job sections expanded [] → visited m job sections ≡ visited n job sections
ends-visits n m job sections expanded low is =
    let count : m ≡ n + (m - n) = omega (arith, low) in
    ap (λ k. visited k job sections) count ∙ is.goes_on sections (λ c i. refl) (m - n) ∙ ap (λ l. visited n job sections ++ l) (none-left sections (Some expanded) (m - n)) ∙ append-nil (visited n job sections)

-- as many as these
pub ends-count : (n : ℕ) (job : JobMeaning) (sections : Blocks) (expanded : Going) → IsTraversed n job sections expanded [] → length (first_visits (suc job.limit) job sections) ≡ n
ends-count n job sections expanded is =
    let low : n ≤ suc job.limit = let h = is.low in omega arith in
    sym (length-map (first_visits (suc job.limit) job sections) cid_of) ∙ ap length (ends-visits n (suc job.limit) job sections expanded low is) ∙ is.counted

-- so the job is within its limit
pub ends-within : (n : ℕ) (job : JobMeaning) (sections : Blocks) (expanded : Going) → IsTraversed n job sections expanded [] → is_over_limit sections (once job) ≡ false
ends-within n job sections expanded is = ap (nat_lt job.limit) (ends-count n job sections expanded is) ∙ within job.limit n is.low

-- if one more link waits at the limit, it isn't
pub over : (n : ℕ) (job : JobMeaning) (sections : Blocks) (expanded : Going) (f : PendingLink) (rest : List PendingLink) → n ≡ job.limit → IsTraversed n job sections expanded (f ∷ rest) → is_over_limit sections (once job) ≡ true
over n job sections expanded f rest here is =
    let count : length (visited (suc n) job sections) ≡ suc n = ap length (visits-one n job sections expanded f rest is) ∙ one-more (visited n job sections) f.cid n is.counted in
    ap (nat_lt job.limit) (sym (length-map (first_visits (suc job.limit) job sections) cid_of) ∙ ap (λ k. length (visited (suc k) job sections)) (sym here) ∙ count) ∙ beyond job.limit n here
