-- No two arrivals of a traversal agree in root, path and depth.
use Rattle.std.proofs.Common.{◌≡◌, ◌≢◌, ℕ, zero, suc, ◌+◌, ◌≤◌, ◌<◌, Bool, true, false, ◌&&◌, List, [], ◌∷◌, ◌++◌, sym, ◌∙◌, arith, append_assoc, append-nil, refl, ne_eqb, le_refl, le_of_eq}
use Rattle.std.specs.Prelude.{Option, Some, None, if◌then◌else◌, ◌==◌}
use Rattle.std.specs.List.{AllByRecursion}
use Rattle.std.proofs.lemmas.Bool.{and_left, and_right}
use Rattle.ix_cbor.specs.Data as nodes
use Rattle.ix_cbor.specs.Data.{Data, Items, Entries, no_items, item, no_entries, entry}
use Rattle.ix_selector.specs.Enters.{Step, key, nth, Path}
use Rattle.ix_walk.specs.Arrivals.{Arrival, Crossing, Inside, behind, when_some, arrivals_below, arrivals_in_items, arrivals_in_entries, arrivals_at, arrivals_from}
use Rattle.ix_walk.proofs.Links.{all-append, all-weaker}
use Rattle.ix_car.specs.Verified.{same_step, same_path}
use Rattle.ix_car.proofs.RisingKeys.{IsBelowAll, HasRisingKeys, HaveRisingKeys, AreRisingKeys, IsRisingIfAny, below-differs}

-- ---- arrivals that don't agree

-- the two have one root, one path and one depth
abbrev pub agree : Arrival → Arrival → Bool
agree a b = (a.root == b.root) && (same_path a.path b.path && (a.depth == b.depth))

-- those from other roots don't agree
roots-differ : (a b : Arrival) → a.root ≢ b.root → agree a b ≡ false
roots-differ a b h = and_left (a.root == b.root) (same_path a.path b.path && (a.depth == b.depth)) (ne_eqb a.root b.root h)

-- nor do those by other paths
paths-differ : (a b : Arrival) → same_path a.path b.path ≡ false → agree a b ≡ false
paths-differ a b h =
    and_right (a.root == b.root) (same_path a.path b.path && (a.depth == b.depth)) (and_left (same_path a.path b.path) (a.depth == b.depth) h)

-- nor those at other depths
depths-differ : (a b : Arrival) → a.depth ≢ b.depth → agree a b ≡ false
depths-differ a b h =
    and_right (a.root == b.root) (same_path a.path b.path && (a.depth == b.depth)) (and_right (same_path a.path b.path) (a.depth == b.depth) (ne_eqb a.depth b.depth h))

-- no visit of the list agrees with this one
abbrev pub DiffersFromAll : List Arrival → Arrival → Type 0
DiffersFromAll more a = AllByRecursion (λ b. agree a b ≡ false) more

-- none agrees with one after it
abbrev pub AreDistinct : List Arrival → Type 0
AreDistinct [] = Unit {0}
AreDistinct (a ∷ more) = DiffersFromAll more a × AreDistinct more

-- distinct lists that differ from each other are distinct together
distinct-append : (xs ys : List Arrival) → AreDistinct xs → AreDistinct ys → AllByRecursion (DiffersFromAll ys) xs → AreDistinct (xs ++ ys)
distinct-append [] ys h g apart = g
distinct-append (x ∷ xs) ys h g apart = (all-append (λ b. agree x b ≡ false) xs ys h.0 apart.0, distinct-append xs ys h.1 g apart.1)

-- paths that part at a step
paths-part : (p : Path) (t u : Step) (q r : Path) → same_step t u ≡ false → same_path (p ++ t ∷ q) (p ++ u ∷ r) ≡ false
paths-part [] t u q r other = and_left (same_step t u) (same_path q r) other
paths-part (v ∷ p) t u q r other = and_right (same_step v v) (same_path (p ++ t ∷ q) (p ++ u ∷ r)) (paths-part p t u q r other)

-- ---- where the arrivals from a root lie

module _ (root : ℕ) where
  -- an arrival comes from this root, the path to it goes on from this one, and at least so many links were crossed
  record Lies (p : Path) (k : ℕ) (a : Arrival) : Type 0 where
    of : a.root ≡ root
    rest : Path
    path : a.path ≡ p ++ rest
    deep : k ≤ a.depth

  -- the path to an arrival goes on from this one by another step
  record LiesElse (p : Path) (t : Step) (a : Arrival) : Type 0 where
    step : Step
    rest : Path
    path : a.path ≡ p ++ step ∷ rest
    other : same_step t step ≡ false

  -- each visit is at or below the path, at this depth or deeper
  abbrev AllLie : Path → ℕ → List Arrival → Type 0
  AllLie p k = AllByRecursion (Lies p k)

  -- each visit is at or below another step of the path
  abbrev AllLieElse : Path → Step → List Arrival → Type 0
  AllLieElse p t = AllByRecursion (LiesElse p t)

  -- what is below a child is below its parent
  lies-behind : (p : Path) (t : Step) (k : ℕ) (a : Arrival) → Lies (behind p t) k a → Lies p k a
  lies-behind p t k a h = record { of = h.of; rest = t ∷ h.rest; path = h.path ∙ append_assoc p (t ∷ []) h.rest; deep = h.deep }

  -- what is below one child isn't below another
  lies-else : (p : Path) (t u : Step) (k : ℕ) (a : Arrival) → same_step t u ≡ false → Lies (behind p u) k a → LiesElse p t a
  lies-else p t u k a other h = record { step = u; rest = h.rest; path = h.path ∙ append_assoc p (u ∷ []) h.rest; other = other }

  -- so they disagree in their paths
  else-differs : (p : Path) (t : Step) (k : ℕ) (a b : Arrival) → Lies (behind p t) k a → LiesElse p t b → agree a b ≡ false
  else-differs p t k a b h g =
      paths-differ a b ((λ i. same_path ((h.path ∙ append_assoc p (t ∷ []) h.rest) i) (g.path i)) ∙ paths-part p t g.step h.rest g.rest g.other)

  -- list by list
  parts-differ : (p : Path) (t : Step) (k : ℕ) (xs ys : List Arrival) → AllLie (behind p t) k xs → AllLieElse p t ys → AllByRecursion (DiffersFromAll ys) xs
  parts-differ p t k xs ys here other =
      all-weaker (Lies (behind p t) k) (DiffersFromAll ys) (λ a h. all-weaker (LiesElse p t) (λ b. agree a b ≡ false) (λ b g. else-differs p t k a b h g) ys other) xs here

  -- ---- below a node

  -- what is visited through a link is below the link's path, and deeper
  abbrev CrossLies : ℕ → Crossing → Type 0
  CrossLies k cross = (c : List ℕ) (p : Path) → AllLie p k (cross c p)

  -- and distinct
  abbrev CrossDistinct : Crossing → Type 0
  CrossDistinct cross = (c : List ℕ) (p : Path) → AreDistinct (cross c p)

  -- what holds of a list holds of it under a test
  chosen_all : (P : Arrival → Type 0) (b : Bool) (xs : List Arrival) → AllByRecursion P xs → AllByRecursion P (if b then xs else [])
  chosen_all P true xs h = h
  chosen_all P false xs h = tt

  -- and so does being distinct
  chosen_distinct : (b : Bool) (xs : List Arrival) → AreDistinct xs → AreDistinct (if b then xs else [])
  chosen_distinct true xs h = h
  chosen_distinct false xs h = tt

  module _ (enters : Path → Bool) (k : ℕ) (cross : Crossing) (lies : CrossLies k cross) where
    -- the arrivals in a child, if it is entered
    abbrev in_child : Path → Step → Data → List Arrival
    in_child p t d = if enters (behind p t) then arrivals_below enters cross d (behind p t) else []

    -- a child's arrivals lie after its step, so they lie here
    child_within : (p : Path) (t : Step) (d : Data) → AllLie (behind p t) k (arrivals_below enters cross d (behind p t)) → AllLie p k (in_child p t d)
    child_within p t d h =
        all-weaker (Lies (behind p t) k) (Lies p k) (lies-behind p t k) (in_child p t d) (chosen_all (Lies (behind p t) k) (enters (behind p t)) (arrivals_below enters cross d (behind p t)) h)

    mutual
      below_lies : (d : Data) (p : Path) → AllLie p k (arrivals_below enters cross d p)
      below_lies nodes.null p = tt
      below_lies (nodes.boolean b) p = tt
      below_lies (nodes.integer n) p = tt
      below_lies (nodes.float bits) p = tt
      below_lies (nodes.bytes b) p = tt
      below_lies (nodes.text t) p = tt
      below_lies (nodes.list ds) p = items_lie 0 ds p
      below_lies (nodes.map es) p = entries_lie es p
      below_lies (nodes.link c) p = lies c p

      items_lie : (n : ℕ) (ds : Items) (p : Path) → AllLie p k (arrivals_in_items enters cross n ds p)
      items_lie n no_items p = tt
      items_lie n (item d ds) p =
          all-append (Lies p k) (in_child p (nth n) d) (arrivals_in_items enters cross (n + 1) ds p)
          (child_within p (nth n) d (below_lies d (behind p (nth n)))) (items_lie (n + 1) ds p)

      entries_lie : (es : Entries) (p : Path) → AllLie p k (arrivals_in_entries enters cross es p)
      entries_lie no_entries p = tt
      entries_lie (entry l d es) p =
          all-append (Lies p k) (in_child p (key l) d) (arrivals_in_entries enters cross es p)
          (child_within p (key l) d (below_lies d (behind p (key l)))) (entries_lie es p)

    child_lies : (t : Step) (d : Data) (p : Path) → AllLie (behind p t) k (in_child p t d)
    child_lies t d p = chosen_all (Lies (behind p t) k) (enters (behind p t)) (arrivals_below enters cross d (behind p t)) (below_lies d (behind p t))

    -- a child after another step lies elsewhere
    child_else : (t u : Step) (d : Data) (p : Path) → same_step t u ≡ false → AllLieElse p t (in_child p u d)
    child_else t u d p other = all-weaker (Lies (behind p u) k) (LiesElse p t) (λ a h. lies-else p t u k a other h) (in_child p u d) (child_lies u d p)

    items_else : (n m : ℕ) (ds : Items) (p : Path) → n < m → AllLieElse p (nth n) (arrivals_in_items enters cross m ds p)
    items_else n m no_items p less = tt
    items_else n m (item d ds) p less =
        all-append (LiesElse p (nth n)) (in_child p (nth m) d) (arrivals_in_items enters cross (m + 1) ds p)
        (child_else (nth n) (nth m) d p (ne_eqb n m (λ e. omega (arith, e)))) (items_else n (m + 1) ds p (omega arith))

    entries_else : (l : List ℕ) (es : Entries) (p : Path) → IsBelowAll l es → AllLieElse p (key l) (arrivals_in_entries enters cross es p)
    entries_else l no_entries p below = tt
    entries_else l (entry m d es) p below =
        all-append (LiesElse p (key l)) (in_child p (key m) d) (arrivals_in_entries enters cross es p)
        (child_else (key l) (key m) d p (below-differs l m below.0)) (entries_else l es p below.1)

    module _ (distinct : CrossDistinct cross) where
      mutual
        below_distinct : (d : Data) (p : Path) → HasRisingKeys d → AreDistinct (arrivals_below enters cross d p)
        below_distinct nodes.null p rising = tt
        below_distinct (nodes.boolean b) p rising = tt
        below_distinct (nodes.integer n) p rising = tt
        below_distinct (nodes.float bits) p rising = tt
        below_distinct (nodes.bytes b) p rising = tt
        below_distinct (nodes.text t) p rising = tt
        below_distinct (nodes.list ds) p rising = items_distinct 0 ds p rising
        below_distinct (nodes.map es) p rising = entries_distinct es p rising
        below_distinct (nodes.link c) p rising = distinct c p

        items_distinct : (n : ℕ) (ds : Items) (p : Path) → HaveRisingKeys ds → AreDistinct (arrivals_in_items enters cross n ds p)
        items_distinct n no_items p rising = tt
        items_distinct n (item d ds) p rising =
            distinct-append (in_child p (nth n) d) (arrivals_in_items enters cross (n + 1) ds p)
            (chosen_distinct (enters (behind p (nth n))) (arrivals_below enters cross d (behind p (nth n))) (below_distinct d (behind p (nth n)) rising.0)) (items_distinct (n + 1) ds p rising.1)
            (parts-differ p (nth n) k (in_child p (nth n) d) (arrivals_in_items enters cross (n + 1) ds p) (child_lies (nth n) d p) (items_else n (n + 1) ds p (omega arith)))

        entries_distinct : (es : Entries) (p : Path) → AreRisingKeys es → AreDistinct (arrivals_in_entries enters cross es p)
        entries_distinct no_entries p rising = tt
        entries_distinct (entry l d es) p rising =
            distinct-append (in_child p (key l) d) (arrivals_in_entries enters cross es p)
            (chosen_distinct (enters (behind p (key l))) (arrivals_below enters cross d (behind p (key l))) (below_distinct d (behind p (key l)) rising.1)) (entries_distinct es p rising.2)
            (parts-differ p (key l) k (in_child p (key l) d) (arrivals_in_entries enters cross es p) (child_lies (key l) d p) (entries_else l es p rising.0))

  -- ---- at and below a CID

  -- what is deeper than one more is deeper
  deeper-lies : (p : Path) (k : ℕ) (xs : List Arrival) → AllLie p (k + 1) xs → AllLie p k xs
  deeper-lies p k = all-weaker (Lies p (k + 1)) (Lies p k) (λ a h. record { of = h.of; rest = h.rest; path = h.path; deep = omega (arith, h.deep) })

  -- what is deeper differs in depth
  deeper-differs : (a : Arrival) (p : Path) (xs : List Arrival) → AllLie p (a.depth + 1) xs → DiffersFromAll xs a
  deeper-differs a p = all-weaker (Lies p (a.depth + 1)) (λ b. agree a b ≡ false)
      (λ b h. depths-differ a b (λ e. omega (arith, e, h.deep)))

  module _ (enters : Path → Bool) (inside : Inside) where
    abbrev rest_at : Crossing → Option Data → Path → List Arrival
    rest_at cross o p = when_some o (λ d. arrivals_below enters cross d p)

    rest_lies : (k : ℕ) (cross : Crossing) → CrossLies k cross → (o : Option Data) (p : Path) → AllLie p k (rest_at cross o p)
    rest_lies k cross lies None p = tt
    rest_lies k cross lies (Some d) p = below_lies enters k cross lies d p

    at_lies : (links k : ℕ) → CrossLies k (arrivals_at enters inside root links k)
    at_lies zero k c p = (record { of = refl; rest = []; path = sym (append-nil p); deep = le_refl k }, tt)
    at_lies (suc links) k c p =
        let cross = arrivals_at enters inside root links (k + 1) in
        (record { of = refl; rest = []; path = sym (append-nil p); deep = le_refl k }, deeper-lies p k (rest_at cross (inside c) p) (rest_lies (k + 1) cross (at_lies links (k + 1)) (inside c) p))

    rest_distinct : (k : ℕ) (cross : Crossing) → CrossLies k cross → CrossDistinct cross → (o : Option Data) (p : Path) → IsRisingIfAny o → AreDistinct (rest_at cross o p)
    rest_distinct k cross lies distinct None p rising = tt
    rest_distinct k cross lies distinct (Some d) p rising = below_distinct enters k cross lies distinct d p rising

    -- no two arrivals agree, where the keys of each map differ
    at_distinct : ((c : List ℕ) → IsRisingIfAny (inside c)) → (links k : ℕ) → CrossDistinct (arrivals_at enters inside root links k)
    at_distinct rising zero k c p = (tt, tt)
    at_distinct rising (suc links) k c p =
        let cross = arrivals_at enters inside root links (k + 1) in
        let lies = at_lies links (k + 1) in
        let own : Arrival = record { root = root; path = p; depth = k; cid = c } in
        (deeper-differs own p (rest_at cross (inside c) p) (rest_lies (k + 1) cross lies (inside c) p), rest_distinct (k + 1) cross lies (at_distinct rising links (k + 1)) (inside c) p (rising c))

-- ---- from roots

module _ (enters : Path → Bool) (inside : Inside) (rising : (c : List ℕ) → IsRisingIfAny (inside c)) (links : ℕ) where
  -- the arrivals from a root, and those from the roots after it
  abbrev at_root : ℕ → List ℕ → List Arrival
  at_root root c = arrivals_at enters inside root links 0 c []

  -- the visits from roots, the first of which has this number
  abbrev from_roots : ℕ → List (List ℕ) → List Arrival
  from_roots root cs = arrivals_from enters inside links root cs

  -- each visit has the number of its root
  of_root : (root : ℕ) (c : List ℕ) → AllByRecursion (λ a. a.root ≡ root) (at_root root c)
  of_root root c = all-weaker (Lies root [] 0) (λ a. a.root ≡ root) (λ a h. h.of) (at_root root c) (at_lies root enters inside links 0 c [])

  -- none comes from a root before the first
  of_roots : (root : ℕ) (cs : List (List ℕ)) → AllByRecursion (λ b. root ≤ b.root) (from_roots root cs)
  of_roots root [] = tt
  of_roots root (c ∷ cs) =
      all-append (λ b. root ≤ b.root) (at_root root c) (from_roots (root + 1) cs)
      (all-weaker (λ a. a.root ≡ root) (λ b. root ≤ b.root) (λ a h. le_of_eq (sym h)) (at_root root c) (of_root root c))
      (all-weaker (λ b. root + 1 ≤ b.root) (λ b. root ≤ b.root) (λ b h. omega arith) (from_roots (root + 1) cs) (of_roots (root + 1) cs))

  -- no two arrivals from all roots agree
  pub from_distinct : (root : ℕ) (cs : List (List ℕ)) → AreDistinct (from_roots root cs)
  from_distinct root [] = tt
  from_distinct root (c ∷ cs) =
      distinct-append (at_root root c) (from_roots (root + 1) cs) (at_distinct root enters inside rising links 0 c []) (from_distinct (root + 1) cs)
      (all-weaker (λ a. a.root ≡ root) (DiffersFromAll (from_roots (root + 1) cs))
      (λ a h. all-weaker (λ b. root + 1 ≤ b.root) (λ b. agree a b ≡ false) (λ b g. roots-differ a b (λ e. omega arith)) (from_roots (root + 1) cs) (of_roots (root + 1) cs))
      (at_root root c) (of_root root c))
