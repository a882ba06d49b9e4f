-- The arrivals of a job are those where its roots wait, but for the root and the path, which a walk doesn't keep.
use Rattle.std.proofs.Common.{◌≡◌, ℕ, zero, suc, ◌+◌, ◌-◌, ◌≤◌, Bool, true, false, List, [], ◌∷◌, ◌++◌, map, flat_map, take, refl, sym, ◌∙◌, ap, subst, append-nil, arith}
use Rattle.std.specs.Prelude.{Option, Some, None, option_and_then, ◌&&◌, ◌||◌, not, bytes_eq, if◌then◌else◌}
use Rattle.std.specs.List.{list_any}
use Rattle.std.proofs.Math.Bool.{or-false}
use Rattle.std.proofs.lemmas.Bool.{false≢true, and_parts, not-true}
use Rattle.std.proofs.lemmas.Slice.Eq.{bytes_eq-Decides}
use Rattle.std.proofs.lemmas.List.{map-append}
use Rattle.std.proofs.lemmas.Grind.{flat_map-append}
use Rattle.ix_cbor.specs.Data as nodes
use Rattle.ix_cbor.specs.Data.{Data, Items, Entries, null, boolean, integer, float, bytes, text, list, link, no_items, item, no_entries, entry}
use Rattle.ix_cbor.specs.Reading.{data_at}
use Rattle.ix_selector.specs.Enters.{Step, key, nth, Path}
use Rattle.ix_selector.specs.Residual.{Place}
use Rattle.ix_walk.specs.declared.subtree.PendingLink.{PendingLink}
use Rattle.ix_walk.specs.Arrivals.{Arrival, Crossing, behind, arrivals_below, arrivals_in_items, arrivals_in_entries, Inside, when_some, arrivals_at, arrivals_from}
use Rattle.ix_store.specs.Store.{Blocks, bytes_of, is_dag_cbor, value_of}
use Rattle.ix_walk.specs.Once.{roots_from, expanded_at, bytes_match, sound_value, once, once_from}
use Rattle.ix_walk.specs.Once as going
use Rattle.ix_walk.specs.Visits.{visits_from, visit_of}
use Rattle.ix_selector.specs.Behind.{residual_after, same_residual}
use Rattle.ix_walk.specs.Walking.{arrival, waiting, when_entered, links_below, links_in_items, links_in_entries, links_inside, is_tagged, is_barren, barren_ones, Going, nothing_expanded, expanded_also, data_inside, expanded_after, first_arrivals, HaveDepths}
use Rattle.ix_walk.proofs.Tags.{untagged}

-- an arrival without its root and its path
abbrev pub forget : Arrival → Arrival
forget a = arrival a.depth a.cid

-- the arrival at a link alone
abbrev one : ℕ → ℕ → Crossing
one root depth c p = record { root = root; path = p; depth = depth; cid = c } ∷ []

-- tests in another order
pub or_swap : (a b c : Bool) → (a || (b || c)) ≡ (b || (a || c))
or_swap true true c = refl
or_swap true false c = refl
or_swap false b c = refl

-- one more among two tests, which implies the first
pub or_among : (a b c : Bool) → (b ≡ true → a ≡ true) → (a || c) ≡ (a || (b || c))
or_among true b c h = refl
or_among false true c h = absurd (false≢true (h refl))
or_among false false c h = refl

-- something is left of a selector
abbrev pub is_left : List Place → Bool
is_left [] = false
is_left (x ∷ xs) = true

-- ---- how deep the links below a node are

-- what holds of the depths of both lists holds of all
pub all_append : (P : ℕ → Type 0) (xs ys : List PendingLink) → HaveDepths P xs → HaveDepths P ys → HaveDepths P (xs ++ ys)
all_append P [] ys h k = k
all_append P (x ∷ xs) ys h k = (h.0, all_append P xs ys h.1 k)

module _ (P : ℕ → Type 0) (depth : ℕ) (holds : P depth) where
  -- and of links that are entered
  all_entered : (r : List Place) (links : List PendingLink) → HaveDepths P links → HaveDepths P (when_entered r links)
  all_entered [] links h = tt
  all_entered (x ∷ xs) links h = h

  mutual
    pub all_below : (r : List Place) (d : Data) → HaveDepths P (links_below r depth d)
    all_below r null = tt
    all_below r (boolean b) = tt
    all_below r (integer n) = tt
    all_below r (float bits) = tt
    all_below r (bytes b) = tt
    all_below r (text t) = tt
    all_below r (list ds) = all_in_items r 0 ds
    all_below r (nodes.map es) = all_in_entries r es
    all_below r (link c) = (holds, tt)

    all_in_items : (r : List Place) (n : ℕ) (ds : Items) → HaveDepths P (links_in_items r depth n ds)
    all_in_items r n no_items = tt
    all_in_items r n (item d ds) =
        all_append P (when_entered (residual_after r (nth n)) (links_below (residual_after r (nth n)) depth d)) (links_in_items r depth (n + 1) ds)
        (all_entered (residual_after r (nth n)) (links_below (residual_after r (nth n)) depth d) (all_below (residual_after r (nth n)) d))
        (all_in_items r (n + 1) ds)

    all_in_entries : (r : List Place) (es : Entries) → HaveDepths P (links_in_entries r depth es)
    all_in_entries r no_entries = tt
    all_in_entries r (entry k d es) =
        all_append P (when_entered (residual_after r (key k)) (links_below (residual_after r (key k)) depth d)) (links_in_entries r depth es)
        (all_entered (residual_after r (key k)) (links_below (residual_after r (key k)) depth d) (all_below (residual_after r (key k)) d))
        (all_in_entries r es)

  -- and of those in the data of a CID
  pub all_inside : (r : List Place) (value : Option Data) → HaveDepths P (links_inside r depth value)
  all_inside r None = tt
  all_inside r (Some d) = all_below r d

-- ---- the links below a node, each crossed

module _ (enters : Path → Bool) (root depth : ℕ) (each : Arrival → List Arrival) (cross : Crossing) (crosses : (c : List ℕ) (p : Path) → each (record { root = root; path = p; depth = depth; cid = c }) ≡ cross c p) where
  -- children that are entered, under a test
  each_entered : (b : Bool) (xs ys : List Arrival) → flat_map each xs ≡ ys → flat_map each (if b then xs else []) ≡ (if b then ys else [])
  each_entered true xs ys e = e
  each_entered false xs ys e = refl

  -- children one after another
  each_joined : (xs ys us vs : List Arrival) → flat_map each xs ≡ us → flat_map each ys ≡ vs → flat_map each (xs ++ ys) ≡ us ++ vs
  each_joined xs ys us vs e f = flat_map-append each xs ys ∙ ap (λ z. z ++ flat_map each ys) e ∙ ap (λ z. us ++ z) f

  mutual
    each_below : (d : Data) (p : Path) → flat_map each (arrivals_below enters (one root depth) d p) ≡ arrivals_below enters cross d p
    each_below null p = refl
    each_below (boolean b) p = refl
    each_below (integer n) p = refl
    each_below (float bits) p = refl
    each_below (bytes b) p = refl
    each_below (text t) p = refl
    each_below (list ds) p = each_in_items 0 ds p
    each_below (nodes.map es) p = each_in_entries es p
    each_below (link c) p = append-nil (each (record { root = root; path = p; depth = depth; cid = c })) ∙ crosses c p

    each_in_items : (n : ℕ) (ds : Items) (p : Path) → flat_map each (arrivals_in_items enters (one root depth) n ds p) ≡ arrivals_in_items enters cross n ds p
    each_in_items n no_items p = refl
    each_in_items n (item d ds) p =
        each_joined (if enters (behind p (nth n)) then arrivals_below enters (one root depth) d (behind p (nth n)) else []) (arrivals_in_items enters (one root depth) (n + 1) ds p) _ _
        (each_entered (enters (behind p (nth n))) (arrivals_below enters (one root depth) d (behind p (nth n))) _ (each_below d (behind p (nth n)))) (each_in_items (n + 1) ds p)

    each_in_entries : (es : Entries) (p : Path) → flat_map each (arrivals_in_entries enters (one root depth) es p) ≡ arrivals_in_entries enters cross es p
    each_in_entries no_entries p = refl
    each_in_entries (entry k d es) p =
        each_joined (if enters (behind p (key k)) then arrivals_below enters (one root depth) d (behind p (key k)) else []) (arrivals_in_entries enters (one root depth) es p) _ _
        (each_entered (enters (behind p (key k))) (arrivals_below enters (one root depth) d (behind p (key k))) _ (each_below d (behind p (key k)))) (each_in_entries es p)

  -- and those in the data of a CID
  each_inside : (value : Option Data) (p : Path) → flat_map each (when_some value (λ d. arrivals_below enters (one root depth) d p)) ≡ when_some value (λ d. arrivals_below enters cross d p)
  each_inside None p = refl
  each_inside (Some d) p = each_below d p

-- ---- arrivals as links that wait

-- what is left of the selector at each path, and how that goes on
module _ (enters : Path → Bool) (left : Path → List Place) (stays : (p : Path) (t : Step) → enters (behind p t) ≡ is_left (left (behind p t))) (goes : (p : Path) (t : Step) → left (behind p t) ≡ residual_after (left p) t) where
  -- the link that a visit is, for a walk
  abbrev pub link_of : Arrival → PendingLink
  link_of a = waiting (left a.path) a.depth a.cid

  -- visits that are entered are links that wait
  links_entered : (b : Bool) (r : List Place) (xs : List Arrival) (links : List PendingLink) → b ≡ is_left r → map link_of xs ≡ links → map link_of (if b then xs else []) ≡ when_entered r links
  links_entered true [] xs links same e = absurd cc
  links_entered true (x ∷ r) xs links same e = e
  links_entered false [] xs links same e = refl
  links_entered false (x ∷ r) xs links same e = absurd cc

  -- those of a child
  links_child : (p : Path) (t : Step) (xs : List Arrival) (links : List Place → List PendingLink) → map link_of xs ≡ links (left (behind p t))
      → map link_of (if enters (behind p t) then xs else []) ≡ when_entered (residual_after (left p) t) (links (residual_after (left p) t))
  links_child p t xs links e = links_entered (enters (behind p t)) (left (behind p t)) xs (links (left (behind p t))) (stays p t) e ∙ ap (λ r. when_entered r (links r)) (goes p t)

  -- and of children one after another
  links_joined : (xs ys : List Arrival) (us vs : List PendingLink) → map link_of xs ≡ us → map link_of ys ≡ vs → map link_of (xs ++ ys) ≡ us ++ vs
  links_joined xs ys us vs e f = map-append link_of xs ys ∙ ap (λ z. z ++ map link_of ys) e ∙ ap (λ z. us ++ z) f

  module _ (root depth : ℕ) where
    mutual
      links_are : (d : Data) (p : Path) → map link_of (arrivals_below enters (one root depth) d p) ≡ links_below (left p) depth d
      links_are null p = refl
      links_are (boolean b) p = refl
      links_are (integer n) p = refl
      links_are (float bits) p = refl
      links_are (bytes b) p = refl
      links_are (text t) p = refl
      links_are (list ds) p = links_of_items 0 ds p
      links_are (nodes.map es) p = links_of_entries es p
      links_are (link c) p = refl

      links_of_items : (n : ℕ) (ds : Items) (p : Path) → map link_of (arrivals_in_items enters (one root depth) n ds p) ≡ links_in_items (left p) depth n ds
      links_of_items n no_items p = refl
      links_of_items n (item d ds) p =
          links_joined (if enters (behind p (nth n)) then arrivals_below enters (one root depth) d (behind p (nth n)) else []) (arrivals_in_items enters (one root depth) (n + 1) ds p) _ _
          (links_child p (nth n) (arrivals_below enters (one root depth) d (behind p (nth n))) (λ r. links_below r depth d) (links_are d (behind p (nth n)))) (links_of_items (n + 1) ds p)

      links_of_entries : (es : Entries) (p : Path) → map link_of (arrivals_in_entries enters (one root depth) es p) ≡ links_in_entries (left p) depth es
      links_of_entries no_entries p = refl
      links_of_entries (entry k d es) p =
          links_joined (if enters (behind p (key k)) then arrivals_below enters (one root depth) d (behind p (key k)) else []) (arrivals_in_entries enters (one root depth) es p) _ _
          (links_child p (key k) (arrivals_below enters (one root depth) d (behind p (key k))) (λ r. links_below r depth d) (links_are d (behind p (key k)))) (links_of_entries es p)

    links_of : (value : Option Data) (p : Path) → map link_of (when_some value (λ d. arrivals_below enters (one root depth) d p)) ≡ links_inside (left p) depth value
    links_of None p = refl
    links_of (Some d) p = links_are d p

  -- ---- from the roots

  -- roots are links that wait
  wait_from : (root : ℕ) (cs : List (List ℕ)) → map link_of (roots_from root cs) ≡ map (waiting (left []) 0) cs
  wait_from root [] = refl
  wait_from root (c ∷ cs) = ap (λ z. waiting (left []) 0 c ∷ z) (wait_from (root + 1) cs)

  -- ---- as many arrivals as are asked for

  module _ (store : Blocks) (limit : ℕ) where
    abbrev inside : Inside
    inside = value_of store

    -- those at and below one, where at most so many links are crossed from the root
    abbrev each : Arrival → List Arrival
    each a = arrivals_at enters inside a.root (limit - a.depth) a.depth a.cid a.path

    -- the first is the arrival itself
    begins : (links : ℕ) (a : Arrival) → (rest : List Arrival) × (arrivals_at enters inside a.root links a.depth a.cid a.path ≡ a ∷ rest)
    begins zero a = ([], refl)
    begins (suc n) a = (_, refl)

    pub first_are : (n : ℕ) (waits : List Arrival) → HaveDepths (λ k. k + n ≤ limit + 1) (map link_of waits) → first_arrivals store None n (map link_of waits) ≡ map forget (take n (flat_map each waits))
    first_are zero waits deep = refl
    first_are (suc n) [] deep = refl
    first_are (suc zero) (a ∷ more) deep =
        let b = begins (limit - a.depth) a in ap (λ (z : List Arrival). map forget (take (suc zero) (z ++ flat_map each more))) (sym b.1)
    first_are (suc (suc n)) (a ∷ more) deep =
        let h = deep.0 in
        let links = limit - (a.depth + 1) in
        let below = when_some (inside a.cid) (λ d. arrivals_below enters (one a.root (a.depth + 1)) d a.path) in
        let crossed : limit - a.depth ≡ suc links = omega (arith, h) in
        let all : each a ≡ a ∷ flat_map each below =
        ap (λ (k : ℕ). arrivals_at enters inside a.root k a.depth a.cid a.path) crossed
        ∙ ap (λ (z : List Arrival). a ∷ z) (sym (each_inside enters a.root (a.depth + 1) each (arrivals_at enters inside a.root links (a.depth + 1)) (λ c p. refl) (inside a.cid) a.path)) in
        let wait : map link_of (below ++ more) ≡ links_inside (left a.path) (a.depth + 1) (inside a.cid) ++ map link_of more =
        map-append link_of below more ∙ ap (λ z. z ++ map link_of more) (links_of a.root (a.depth + 1) (inside a.cid) a.path) in
        let low : HaveDepths (λ k. k + suc n ≤ limit + 1) (map link_of (below ++ more)) =
        subst (HaveDepths (λ k. k + suc n ≤ limit + 1)) (sym wait)
        (all_append (λ k. k + suc n ≤ limit + 1) (links_inside (left a.path) (a.depth + 1) (inside a.cid)) (map link_of more)
        (all_inside (λ k. k + suc n ≤ limit + 1) (a.depth + 1) (omega (arith, h)) (left a.path) (inside a.cid)) (lower n (map link_of more) deep.1)) in
        ap (λ z. forget a ∷ first_arrivals store None (suc n) z) (sym wait)
        ∙ ap (λ z. forget a ∷ z) (first_are (suc n) (below ++ more) low)
        ∙ ap (λ z. forget a ∷ map forget (take (suc n) z)) (flat_map-append each below more)
        ∙ ap (λ z. map forget (take (suc (suc n)) (z ++ flat_map each more))) (sym all) where
          lower : (n : ℕ) (links : List PendingLink) → HaveDepths (λ k. k + suc (suc n) ≤ limit + 1) links → HaveDepths (λ k. k + suc n ≤ limit + 1) links
          lower n [] h = tt
          lower n (f ∷ links) h = (let k = h.0 in omega (arith, k), lower n links h.1)

    all_from : (root : ℕ) (cs : List (List ℕ)) → flat_map each (roots_from root cs) ≡ arrivals_from enters inside limit root cs
    all_from root [] = refl
    all_from root (c ∷ cs) =
        let z : limit - 0 ≡ limit = omega arith in
        ap (λ (k : ℕ). arrivals_at enters inside root k 0 c [] ++ flat_map each (roots_from (root + 1) cs)) z
        ∙ ap (λ (z : List Arrival). arrivals_at enters inside root limit 0 c [] ++ z) (all_from (root + 1) cs)

    low_from : (root : ℕ) (cs : List (List ℕ)) → HaveDepths (λ k. k + suc limit ≤ limit + 1) (map link_of (roots_from root cs))
    low_from root [] = tt
    low_from root (c ∷ cs) = (omega arith, low_from (root + 1) cs)

    -- one arrival more than the limit
    pub first_from : (cs : List (List ℕ)) → first_arrivals store None (suc limit) (map (waiting (left []) 0) cs) ≡ map forget (take (suc limit) (arrivals_from enters inside limit 0 cs))
    first_from cs =
        ap (first_arrivals store None (suc limit)) (sym (wait_from 0 cs)) ∙ first_are (suc limit) (roots_from 0 cs) (low_from 0 cs)
        ∙ ap (λ z. map forget (take (suc limit) z)) (all_from 0 cs)

  -- ---- link-visit-once

  -- what was expanded, as a test
  abbrev test_of : List (List ℕ × List Place) → Going
  test_of expanded c places = list_any (λ g. bytes_eq g.0 c && same_residual g.1 places) expanded

  module _ (store : Blocks) where
    -- what is below an arrival, if it is expanded
    abbrev below : Option Data → Arrival → List Arrival
    below value a = when_some value (λ d. going.links_below enters d a)

    -- nothing below the CIDs that pass a test is visited
    abbrev AreBarren : (List ℕ → Bool) → Type 0
    AreBarren test = (a : Arrival) → test a.cid ≡ true → below (sound_value store a.cid) a ≡ []

    module _ (test : List ℕ → Bool) (barren : AreBarren test) where
      -- a walk takes a CID for expanded at a path exactly if it passes the test or was expanded
      abbrev Follows : Going → List (List ℕ × List Place) → Type 0
      Follows g expanded = (c : List ℕ) (p : Path) → g c (left p) ≡ (test c || test_of expanded c (left p))

      -- what was expanded after an arrival
      abbrev after : Option Data → Arrival → List (List ℕ × List Place) → List (List ℕ × List Place)
      after value a expanded = going.expanded_after enters left same_residual (sound_value store) value a expanded

      -- what a walk has then expanded
      abbrev going_after : Option Data → Arrival → Going → Going
      going_after None a g = g
      going_after (Some d) a g = expanded_also a.cid (left a.path) g

      going_same : (value : Option Data) (a : Arrival) (g : Going) → expanded_after value (link_of a) (Some g) ≡ Some (going_after value a g)
      going_same None a g = refl
      going_same (Some d) a g = refl

      -- it follows if both expand a CID
      follows_both : (value : Option Data) (a : Arrival) (g : Going) (expanded : List (List ℕ × List Place)) → Follows g expanded → Follows (going_after value a g) (after value a expanded)
      follows_both None a g expanded follows = follows
      follows_both (Some d) a g expanded follows = λ c p.
          ap (λ (b : Bool). (bytes_eq a.cid c && same_residual (left a.path) (left p)) || b) (follows c p)
          ∙ or_swap (bytes_eq a.cid c && same_residual (left a.path) (left p)) (test c) (test_of expanded c (left p))

      -- and if only the other does, one that passes the test
      follows_one : (value : Option Data) (a : Arrival) (g : Going) (expanded : List (List ℕ × List Place)) → test a.cid ≡ true → Follows g expanded → Follows g (after value a expanded)
      follows_one None a g expanded is follows = follows
      follows_one (Some d) a g expanded is follows = λ c p. follows c p ∙ or_among (test c) (bytes_eq a.cid c && same_residual (left a.path) (left p)) (test_of expanded c (left p)) (passes c p) where
        passes : (c : List ℕ) (p : Path) → (bytes_eq a.cid c && same_residual (left a.path) (left p)) ≡ true → test c ≡ true
        passes c p both =
            let parts = and_parts (bytes_eq a.cid c) (same_residual (left a.path) (left p)) both in
            subst (λ (e : List ℕ). test e ≡ true) ((bytes_eq-Decides a.cid c).0 parts.0) is

      -- the first visits of a walk that follows
      abbrev Agrees : ℕ → Type 0
      Agrees n =
          (g : Going) (expanded : List (List ℕ × List Place)) (waits : List Arrival) → Follows g expanded
          → first_arrivals store (Some g) n (map link_of waits) ≡ map forget (once enters left same_residual (sound_value store) n expanded waits)

      module _ (n : ℕ) (agrees : Agrees n) (g : Going) (expanded : List (List ℕ × List Place)) (a : Arrival) (more : List Arrival) (follows : Follows g expanded) where
        -- what the definition expands
        abbrev value : Option Data
        value = expanded_at enters left same_residual (sound_value store) expanded a

        -- the visits after that if the walk expands this
        abbrev behind_it : Option Data → List Arrival
        behind_it o = first_arrivals store (expanded_after o (link_of a) (Some g)) n (links_inside (left a.path) (a.depth + 1) o ++ map link_of more)

        -- what the walk expands
        data_by : (b : Bool) → test a.cid ≡ b → data_inside store (Some g) (link_of a) ≡ (if (b || test_of expanded a.cid (left a.path)) then None else sound_value store a.cid)
        data_by b is = ap (λ (x : Bool). if x then None else sound_value store a.cid) (follows a.cid a.path ∙ ap (λ (x : Bool). x || test_of expanded a.cid (left a.path)) is)

        agrees_after : (b : Bool) → test a.cid ≡ b
            → first_arrivals store (Some g) (suc n) (map link_of (a ∷ more)) ≡ map forget (once enters left same_residual (sound_value store) (suc n) expanded (a ∷ more))
        agrees_after true is =
            ap (λ (o : Option Data). forget a ∷ behind_it o) (data_by true is)
            ∙ ap (λ (z : List Arrival). forget a ∷ z) (agrees g (after value a expanded) more (follows_one value a g expanded is follows))
            ∙ ap (λ (z : List Arrival). forget a ∷ map forget (once enters left same_residual (sound_value store) n (after value a expanded) (z ++ more))) (sym (skipped (test_of expanded a.cid (left a.path)))) where
              skipped : (b : Bool) → below (if b then None else sound_value store a.cid) a ≡ []
              skipped true = refl
              skipped false = barren a is
        agrees_after false is =
            let wait : map link_of (below value a ++ more) ≡ links_inside (left a.path) (a.depth + 1) value ++ map link_of more =
            map-append link_of (below value a) more ∙ ap (λ z. z ++ map link_of more) (links_of a.root (a.depth + 1) value a.path) in
            ap (λ (o : Option Data). forget a ∷ behind_it o) (data_by false is)
            ∙ ap (λ (z : List PendingLink). forget a ∷ first_arrivals store (expanded_after value (link_of a) (Some g)) n z) (sym wait)
            ∙ ap (λ (h : Option Going). forget a ∷ first_arrivals store h n (map link_of (below value a ++ more))) (going_same value a g)
            ∙ ap (λ (z : List Arrival). forget a ∷ z) (agrees (going_after value a g) (after value a expanded) (below value a ++ more) (follows_both value a g expanded follows))

      once_are : (n : ℕ) → Agrees n
      once_are zero g expanded waits follows = refl
      once_are (suc n) g expanded [] follows = refl
      once_are (suc n) g expanded (a ∷ more) follows = agrees_after n (once_are n) g expanded a more follows (test a.cid) refl

    -- the first visits if the roots wait and nothing was expanded
    pub once_first : (n : ℕ) (cs : List (List ℕ)) → first_arrivals store (Some nothing_expanded) n (map (waiting (left []) 0) cs) ≡ map forget (once_from enters left same_residual (sound_value store) n cs)
    once_first n cs =
        ap (first_arrivals store (Some nothing_expanded) n) (sym (wait_from 0 cs))
        ∙ once_are (λ c. false) (λ a is. absurd (false≢true is)) n nothing_expanded [] (roots_from 0 cs) (λ c p. refl)

    -- nothing below a barren CID is visited
    barren : AreBarren (is_barren store)
    barren a is = by (bytes_match store a.cid) (is_tagged (bytes_of store a.cid)) refl (not-true _ is) where
      valued : (dag : Bool) (o : Option (List ℕ)) → is_tagged o ≡ false → below (if dag then option_and_then data_at o else None) a ≡ []
      valued false o none = refl
      valued true None none = refl
      valued true (Some b) none = spelled (data_at b) refl where
        spelled : (o : Option Data) → data_at b ≡ o → below o a ≡ []
        spelled None e = refl
        spelled (Some d) e = untagged enters (one a.root (a.depth + 1)) b d a.path e none

      by : (sound tagged : Bool) → is_tagged (bytes_of store a.cid) ≡ tagged → (sound && tagged) ≡ false → below (if sound then value_of store a.cid else None) a ≡ []
      by false tagged is none = refl
      by true tagged is none = valued (is_dag_cbor a.cid) (bytes_of store a.cid) (is ∙ none)

    -- the first visits if the roots wait and barren CIDs aren't expanded
    pub late_first : (n : ℕ) (cs : List (List ℕ)) → first_arrivals store (Some (barren_ones store)) n (map (waiting (left []) 0) cs) ≡ map forget (once_from enters left same_residual (sound_value store) n cs)
    late_first n cs =
        ap (first_arrivals store (Some (barren_ones store)) n) (sym (wait_from 0 cs))
        ∙ once_are (is_barren store) barren n (barren_ones store) [] (roots_from 0 cs) (λ c p. sym (or-false (is_barren store c)))

-- visits show neither a root nor a path
pub visits_forget : (store : Blocks) (number seq : ℕ) (xs : List Arrival) → visits_from store number seq (map forget xs) ≡ visits_from store number seq xs
visits_forget store number seq [] = refl
visits_forget store number seq (a ∷ xs) = ap (λ vs. visit_of store number seq a ∷ vs) (visits_forget store number (seq + 1) xs)
