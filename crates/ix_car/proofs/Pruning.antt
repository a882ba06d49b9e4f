-- Cutting a traversal by depth leaves what a traversal leaves that never went in.
use Rattle.std.proofs.Common.{◌≡◌, ℕ, zero, suc, ◌+◌, ◌≤◌, ◌<◌, Bool, true, false, List, [], ◌∷◌, ◌++◌, refl, sym, ◌∙◌, ap, subst, arith}
use Rattle.std.specs.Prelude.{Option, Some, None, nat_lt, if◌then◌else◌, take}
use Rattle.std.proofs.lemmas.Bool.{le-ltb, lt-ltb}
use Rattle.ix_cbor.specs.Data as nodes
use Rattle.ix_cbor.specs.Data.{Data, Items, Entries, no_items, item, no_entries, entry}
use Rattle.ix_selector.specs.Enters.{key, nth, Path}
use Rattle.ix_walk.specs.Arrivals.{Arrival, Crossing, Inside, behind, when_some, arrivals_below, arrivals_in_items, arrivals_in_entries, arrivals_at, arrivals_from}
use Rattle.ix_car.specs.Kept.{is_below, cut_at, kept_after, kept_of, without_deeper, cut_after as cut_of}
use Rattle.ix_car.specs.Verified.{only_passing}

module _ {X : Type 0} (depth : X → ℕ) (pass : X → Bool) where
  -- where the list is cut after these entries
  abbrev pub cut_after : Option ℕ → List X → Option ℕ
  cut_after = cut_of depth pass

  -- what is kept of a concatenation, part by part
  pub kept-append : (cut : Option ℕ) (xs ys : List X) → kept_after depth pass cut (xs ++ ys) ≡ kept_after depth pass cut xs ++ kept_after depth pass (cut_after cut xs) ys
  kept-append cut [] ys = refl
  kept-append cut (x ∷ xs) ys =
      elim (is_below cut (depth x)) as (λ b. (if b then kept_after depth pass cut (xs ++ ys) else x ∷ kept_after depth pass (cut_at depth pass x) (xs ++ ys)) ≡ (if b then kept_after depth pass cut xs else x ∷ kept_after depth pass (cut_at depth pass x) xs) ++ kept_after depth pass (if b then cut_after cut xs else cut_after (cut_at depth pass x) xs) ys)
      [ true ↦ kept-append cut xs ys | false ↦ ap (λ l. x ∷ l) (kept-append (cut_at depth pass x) xs ys) ]

  -- and where it is cut after both
  pub cut_after-append : (cut : Option ℕ) (xs ys : List X) → cut_after cut (xs ++ ys) ≡ cut_after (cut_after cut xs) ys
  cut_after-append cut [] ys = refl
  cut_after-append cut (x ∷ xs) ys =
      elim (is_below cut (depth x)) as (λ b. (if b then cut_after cut (xs ++ ys) else cut_after (cut_at depth pass x) (xs ++ ys)) ≡ cut_after (if b then cut_after cut xs else cut_after (cut_at depth pass x) xs) ys)
      [ true ↦ cut_after-append cut xs ys | false ↦ cut_after-append (cut_at depth pass x) xs ys ]

-- nothing is cut, or at this depth or a greater one
abbrev AtLeast : ℕ → Option ℕ → Type 0
AtLeast k None = Unit {0}
AtLeast k (Some d) = k ≤ d

-- a cut at a depth or deeper is at a smaller one or deeper
at_least_less : (k : ℕ) (cut : Option ℕ) → AtLeast (k + 1) cut → AtLeast k cut
at_least_less k None h = tt
at_least_less k (Some d) h = omega arith

-- so an entry at that depth isn't cut off
not_below : (k : ℕ) (cut : Option ℕ) → AtLeast k cut → is_below cut k ≡ false
not_below k None h = refl
not_below k (Some d) h = le-ltb d k h

module _ (pass : List ℕ → Bool) where
  -- what is kept of visits
  abbrev pub kept_arrivals : Option ℕ → List Arrival → List Arrival
  kept_arrivals = kept_after (λ a. a.depth) (λ a. pass a.cid)

  -- where they are cut after all
  abbrev pub after_arrivals : Option ℕ → List Arrival → Option ℕ
  after_arrivals = cut_after (λ a. a.depth) (λ a. pass a.cid)

  -- after this cut, pruned is left, and what follows at depth k isn't cut off
  record Pruned (k : ℕ) (cut : Option ℕ) (whole pruned : List Arrival) : Type 0 where
    left : kept_arrivals cut whole ≡ pruned
    after : AtLeast k (after_arrivals cut whole)

  -- all of it is cut off after a cut at depth d
  record Gone (d : ℕ) (whole : List Arrival) : Type 0 where
    left : kept_arrivals (Some d) whole ≡ []
    after : after_arrivals (Some d) whole ≡ Some d

  -- pruning a concatenation, part by part
  pruned-append : (k : ℕ) (cut : Option ℕ) (a b a' b' : List Arrival) → Pruned k cut a a' → ((c : Option ℕ) → AtLeast k c → Pruned k c b b') → Pruned k cut (a ++ b) (a' ++ b')
  pruned-append k cut a b a' b' first next =
      let second = next (after_arrivals cut a) first.after in
      record {
        left = kept-append (λ x. x.depth) (λ x. pass x.cid) cut a b ∙ (λ i. first.left i ++ second.left i);
        after = subst (AtLeast k) (sym (cut_after-append (λ x. x.depth) (λ x. pass x.cid) cut a b)) second.after;
      }

  -- what is cut off of a concatenation, part by part
  expanded-append : (d : ℕ) (a b : List Arrival) → Gone d a → Gone d b → Gone d (a ++ b)
  expanded-append d a b first second =
      record {
        left = kept-append (λ x. x.depth) (λ x. pass x.cid) (Some d) a b ∙ (λ i. first.left i ++ kept_arrivals (first.after i) b) ∙ second.left;
        after = cut_after-append (λ x. x.depth) (λ x. pass x.cid) (Some d) a b ∙ ap (λ c. after_arrivals c b) first.after ∙ second.after;
      }

  -- what a link leads to is pruned, at one more depth
  abbrev Prunes : ℕ → Crossing → Crossing → Type 0
  Prunes k cross pruned = (cut : Option ℕ) (c : List ℕ) (p : Path) → AtLeast k cut → Pruned k cut (cross c p) (pruned c p)

  -- what a link leads to below the cut is cut off
  abbrev Goes : ℕ → Crossing → Type 0
  Goes d cross = (c : List ℕ) (p : Path) → Gone d (cross c p)

  module _ (enters : Path → Bool) (k : ℕ) (cross pruned : Crossing) (h : Prunes k cross pruned) where
    nothing : (cut : Option ℕ) → AtLeast k cut → Pruned k cut [] []
    nothing cut a = record { left = refl; after = a }

    chosen : (b : Bool) (cut : Option ℕ) (x x' : List Arrival) → AtLeast k cut → Pruned k cut x x' → Pruned k cut (if b then x else []) (if b then x' else [])
    chosen true cut x x' a y = y
    chosen false cut x x' a y = nothing cut a

    mutual
      prunes_below : (d : Data) (p : Path) (cut : Option ℕ) → AtLeast k cut → Pruned k cut (arrivals_below enters cross d p) (arrivals_below enters pruned d p)
      prunes_below nodes.null p cut a = nothing cut a
      prunes_below (nodes.boolean b) p cut a = nothing cut a
      prunes_below (nodes.integer n) p cut a = nothing cut a
      prunes_below (nodes.float bits) p cut a = nothing cut a
      prunes_below (nodes.bytes b) p cut a = nothing cut a
      prunes_below (nodes.text t) p cut a = nothing cut a
      prunes_below (nodes.list ds) p cut a = prunes_items 0 ds p cut a
      prunes_below (nodes.map es) p cut a = prunes_entries es p cut a
      prunes_below (nodes.link c) p cut a = h cut c p a

      prunes_items : (n : ℕ) (ds : Items) (p : Path) (cut : Option ℕ) → AtLeast k cut → Pruned k cut (arrivals_in_items enters cross n ds p) (arrivals_in_items enters pruned n ds p)
      prunes_items n no_items p cut a = nothing cut a
      prunes_items n (item d ds) p cut a =
          pruned-append k cut _ _ _ _ (chosen (enters (behind p (nth n))) cut _ _ a (prunes_below d (behind p (nth n)) cut a)) (λ c b. prunes_items (n + 1) ds p c b)

      prunes_entries : (es : Entries) (p : Path) (cut : Option ℕ) → AtLeast k cut → Pruned k cut (arrivals_in_entries enters cross es p) (arrivals_in_entries enters pruned es p)
      prunes_entries no_entries p cut a = nothing cut a
      prunes_entries (entry l d es) p cut a =
          pruned-append k cut _ _ _ _ (chosen (enters (behind p (key l))) cut _ _ a (prunes_below d (behind p (key l)) cut a)) (λ c b. prunes_entries es p c b)

  module _ (enters : Path → Bool) (d : ℕ) (cross : Crossing) (h : Goes d cross) where
    none : Gone d []
    none = record { left = refl; after = refl }

    chosen_expanded : (b : Bool) (x : List Arrival) → Gone d x → Gone d (if b then x else [])
    chosen_expanded true x y = y
    chosen_expanded false x y = none

    mutual
      expanded_below : (n : Data) (p : Path) → Gone d (arrivals_below enters cross n p)
      expanded_below nodes.null p = none
      expanded_below (nodes.boolean b) p = none
      expanded_below (nodes.integer n) p = none
      expanded_below (nodes.float bits) p = none
      expanded_below (nodes.bytes b) p = none
      expanded_below (nodes.text t) p = none
      expanded_below (nodes.list ds) p = expanded_items 0 ds p
      expanded_below (nodes.map es) p = expanded_entries es p
      expanded_below (nodes.link c) p = h c p

      expanded_items : (n : ℕ) (ds : Items) (p : Path) → Gone d (arrivals_in_items enters cross n ds p)
      expanded_items n no_items p = none
      expanded_items n (item x ds) p = expanded-append d _ _ (chosen_expanded (enters (behind p (nth n))) _ (expanded_below x (behind p (nth n)))) (expanded_items (n + 1) ds p)

      expanded_entries : (es : Entries) (p : Path) → Gone d (arrivals_in_entries enters cross es p)
      expanded_entries no_entries p = none
      expanded_entries (entry l x es) p = expanded-append d _ _ (chosen_expanded (enters (behind p (key l))) _ (expanded_below x (behind p (key l)))) (expanded_entries es p)

  -- an entry that isn't cut off is left, with what is left after it
  entry_left : (root k : ℕ) (cut : Option ℕ) (p : Path) (c : List ℕ) (rest : List Arrival) → AtLeast k cut
      → kept_arrivals cut (record { root = root; path = p; depth = k; cid = c } ∷ rest) ≡ record { root = root; path = p; depth = k; cid = c } ∷ kept_arrivals (if pass c then None else Some k) rest
  entry_left root k cut p c rest a =
      ap (λ b. if b then kept_arrivals cut rest else record { root = root; path = p; depth = k; cid = c } ∷ kept_arrivals (if pass c then None else Some k) rest) (not_below k cut a)

  -- after an entry at this depth the cut is its own, or none if the entry is good
  after_entry : (root k : ℕ) (cut : Option ℕ) (p : Path) (c : List ℕ) (rest : List Arrival) → AtLeast k cut
      → after_arrivals cut (record { root = root; path = p; depth = k; cid = c } ∷ rest) ≡ after_arrivals (if pass c then None else Some k) rest
  after_entry root k cut p c rest a =
      ap (λ b. if b then after_arrivals cut rest else after_arrivals (if pass c then None else Some k) rest) (not_below k cut a)

  -- an entry deeper than the cut is cut off, and so is what is cut off after it
  expanded-entry : (d : ℕ) (x : Arrival) (rest : List Arrival) → d < x.depth → Gone d rest → Gone d (x ∷ rest)
  expanded-entry d x rest deep h =
      record {
        left = ap (λ b. if b then kept_arrivals (Some d) rest else x ∷ kept_arrivals (if pass x.cid then None else Some x.depth) rest) (lt-ltb d x.depth deep) ∙ h.left;
        after = ap (λ b. if b then after_arrivals (Some d) rest else after_arrivals (if pass x.cid then None else Some x.depth) rest) (lt-ltb d x.depth deep) ∙ h.after;
      }

  module _ (enters : Path → Bool) (inside : Inside) where
    abbrev whole_at : ℕ → ℕ → ℕ → Crossing
    whole_at root links k = arrivals_at enters inside root links k

    abbrev pruned_at : ℕ → ℕ → ℕ → Crossing
    pruned_at root links k = arrivals_at enters (only_passing pass inside) root links k

    -- what is after an entry
    abbrev rest_at : Crossing → Option Data → Path → List Arrival
    rest_at cross o p = when_some o (λ n. arrivals_below enters cross n p)

    expanded_rest : (d : ℕ) (cross : Crossing) → Goes d cross → (o : Option Data) (p : Path) → Gone d (rest_at cross o p)
    expanded_rest d cross h None p = record { left = refl; after = refl }
    expanded_rest d cross h (Some n) p = expanded_below enters d cross h n p

    at_expanded : (root links d k : ℕ) → d < k → Goes d (whole_at root links k)
    at_expanded root zero d k deep c p = expanded-entry d (record { root = root; path = p; depth = k; cid = c }) [] deep (record { left = refl; after = refl })
    at_expanded root (suc links) d k deep c p =
        expanded-entry d (record { root = root; path = p; depth = k; cid = c }) _ deep (expanded_rest d (whole_at root links (k + 1)) (at_expanded root links d (k + 1) (omega arith)) (inside c) p)

    deeper : (k : ℕ) (cross pruned : Crossing) → Prunes (k + 1) cross pruned → (o : Option Data) (p : Path) → Pruned k None (rest_at cross o p) (rest_at pruned o p)
    deeper k cross pruned h None p = record { left = refl; after = tt }
    deeper k cross pruned h (Some n) p =
        let below = prunes_below enters (k + 1) cross pruned h n p None tt in
        record { left = below.left; after = at_least_less k (after_arrivals None (rest_at cross (Some n) p)) below.after }

    cut_off : (k : ℕ) (rest : List Arrival) → Gone k rest → Pruned k (Some k) rest []
    cut_off k rest h = let least : AtLeast k (Some k) = omega arith in record { left = h.left; after = subst (AtLeast k) (sym h.after) least }

    -- after an entry that passes, or doesn't
    after_it : (k : ℕ) (cross pruned : Crossing) → Prunes (k + 1) cross pruned → Goes k cross → (o : Option Data) (p : Path) (b : Bool) → Pruned k (if b then None else Some k) (rest_at cross o p) (rest_at pruned (if b then o else None) p)
    after_it k cross pruned h g o p true = deeper k cross pruned h o p
    after_it k cross pruned h g o p false = cut_off k _ (expanded_rest k cross g o p)

    at_prunes : (root links k : ℕ) → Prunes k (whole_at root links k) (pruned_at root links k)
    at_prunes root zero k cut c p a =
        let one : (b : Bool) → AtLeast k (if b then None else Some k) = λ b. elim b as (λ v. AtLeast k (if v then None else Some k)) [ true ↦ tt | false ↦ omega arith ] in
        record { left = entry_left root k cut p c [] a; after = subst (AtLeast k) (sym (after_entry root k cut p c [] a)) (one (pass c)) }
    at_prunes root (suc links) k cut c p a =
        let rest = after_it k (whole_at root links (k + 1)) (pruned_at root links (k + 1)) (at_prunes root links (k + 1)) (at_expanded root links k (k + 1) (omega arith)) (inside c) p (pass c) in record {
          left = entry_left root k cut p c _ a ∙ ap (λ l. record { root = root; path = p; depth = k; cid = c } ∷ l) rest.left;
          after = subst (AtLeast k) (sym (after_entry root k cut p c _ a)) rest.after;
        }

    abbrev whole_from : ℕ → ℕ → List (List ℕ) → List Arrival
    whole_from links root cs = arrivals_from enters inside links root cs

    abbrev pruned_from : ℕ → ℕ → List (List ℕ) → List Arrival
    pruned_from links root cs = arrivals_from enters (only_passing pass inside) links root cs

    -- a root has depth 0, so it is not cut off, whatever was cut before
    from_prunes : (links root : ℕ) (cs : List (List ℕ)) (cut : Option ℕ) → AtLeast 0 cut → Pruned 0 cut (whole_from links root cs) (pruned_from links root cs)
    from_prunes links root [] cut a = record { left = refl; after = a }
    from_prunes links root (c ∷ cs) cut a =
        pruned-append 0 cut (whole_at root links 0 c []) (whole_from links (root + 1) cs) (pruned_at root links 0 c []) (pruned_from links (root + 1) cs)
        (at_prunes root links 0 cut c [] a) (λ d b. from_prunes links (root + 1) cs d b)

    -- cutting by depth equals never having gone in
    pub pruning : (links root : ℕ) (cs : List (List ℕ)) → kept_arrivals None (whole_from links root cs) ≡ pruned_from links root cs
    pruning links root cs = (from_prunes links root cs None tt).left

-- what is left of the beginning of a list is the beginning of what is left
pub kept-take : {X : Type 0} (depth : X → ℕ) (pass : X → Bool) (cut : Option ℕ) (n : ℕ) (xs : List X) → (m : ℕ) × (kept_after depth pass cut (take n xs) ≡ take m (kept_after depth pass cut xs))
kept-take depth pass cut zero xs = (0, refl)
kept-take depth pass cut (suc n) [] = (0, refl)
kept-take depth pass cut (suc n) (x ∷ xs) =
    elim (is_below cut (depth x)) as (λ b. (m : ℕ) × ((if b then kept_after depth pass cut (take n xs) else x ∷ kept_after depth pass (cut_at depth pass x) (take n xs)) ≡ take m (if b then kept_after depth pass cut xs else x ∷ kept_after depth pass (cut_at depth pass x) xs)))
    [ true ↦ kept-take depth pass cut n xs | false ↦ (let r = kept-take depth pass (cut_at depth pass x) n xs in (suc r.0, ap (λ l. x ∷ l) r.1)) ]

-- after an entry that doesn't pass, its longest prefix of deeper entries is left out
pub kept-cut : {X : Type 0} (depth : X → ℕ) (pass : X → Bool) (d : ℕ) (xs : List X) → kept_after depth pass (Some d) xs ≡ kept_of depth pass (without_deeper depth pass d xs)
kept-cut depth pass d [] = refl
kept-cut depth pass d (x ∷ xs) =
    elim (nat_lt d (depth x)) as (λ b. (if b then kept_after depth pass (Some d) xs else x ∷ kept_after depth pass (cut_at depth pass x) xs) ≡ kept_of depth pass (if b then without_deeper depth pass d xs else x ∷ xs))
    [ true ↦ kept-cut depth pass d xs | false ↦ refl ]

-- the first entry is kept; what follows is kept as by itself where it passes, and else without what is deeper at its front
pub kept-first : {X : Type 0} (depth : X → ℕ) (pass : X → Bool) (x : X) (xs : List X)
    → kept_of depth pass (x ∷ xs) ≡ x ∷ (if pass x then kept_of depth pass xs else kept_of depth pass (without_deeper depth pass (depth x) xs))
kept-first depth pass x xs =
    ap (λ l. x ∷ l) (elim (pass x) as (λ b. kept_after depth pass (if b then None else Some (depth x)) xs ≡ (if b then kept_of depth pass xs else kept_of depth pass (without_deeper depth pass (depth x) xs)))
    [ true ↦ refl | false ↦ kept-cut depth pass (depth x) xs ])
