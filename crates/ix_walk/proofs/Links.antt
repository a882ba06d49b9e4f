-- Visits as a tree: each visit, and after it those of the links right below it.
use Rattle.std.proofs.Common.{◌≡◌, ℕ, zero, suc, ◌+◌, ◌≤◌, ◌<◌, Bool, true, false, List, [], ◌∷◌, ◌++◌, length, map, flat_map, refl, sym, ap, ◌∙◌, subst, append_assoc, append-nil, length-append, arith}
use Rattle.std.specs.Prelude.{Option, Some, None, if◌then◌else◌}
use Rattle.std.specs.List.{AllByRecursion}
use Rattle.std.proofs.lemmas.List.{map-append}
use Rattle.std.proofs.lemmas.List.Concat.{flat_map-append}
use Rattle.ix_cbor.specs.Data as nodes
use Rattle.ix_cbor.specs.Data.{Data, Items, Entries, no_items, item, no_entries, entry}
use Rattle.ix_selector.specs.Enters.{Step, key, nth, Path}
use Rattle.ix_walk.specs.Arrivals.{Arrival, Crossing, Inside, behind, when_some, arrivals_below, arrivals_in_items, arrivals_in_entries, arrivals_at, arrivals_from}
use Rattle.ix_walk.specs.Once.{roots_from, links_below}

-- what holds of both parts holds of the concatenation
pub all-append : {X : Type 0} (P : X → Type 0) (xs ys : List X) → AllByRecursion P xs → AllByRecursion P ys → AllByRecursion P (xs ++ ys)
all-append P [] ys h g = g
all-append P (x ∷ xs) ys h g = (h.0, all-append P xs ys h.1 g)

-- and of its first part
pub all-left : {X : Type 0} (P : X → Type 0) (xs ys : List X) → AllByRecursion P (xs ++ ys) → AllByRecursion P xs
all-left P [] ys h = tt
all-left P (x ∷ xs) ys h = (h.0, all-left P xs ys h.1)

-- and of its second part
pub all-right : {X : Type 0} (P : X → Type 0) (xs ys : List X) → AllByRecursion P (xs ++ ys) → AllByRecursion P ys
all-right P [] ys h = h
all-right P (x ∷ xs) ys h = all-right P xs ys h.1

-- what follows from each follows from all
pub all-weaker : {X : Type 0} (P Q : X → Type 0) → ((x : X) → P x → Q x) → (xs : List X) → AllByRecursion P xs → AllByRecursion Q xs
all-weaker P Q weaker [] h = tt
all-weaker P Q weaker (x ∷ xs) h = (weaker x h.0, all-weaker P Q weaker xs h.1)

-- two properties at once
pub all-both : {X : Type 0} (P Q : X → Type 0) (xs : List X) → AllByRecursion P xs → AllByRecursion Q xs → AllByRecursion (λ x. P x × Q x) xs
all-both P Q [] h g = tt
all-both P Q (x ∷ xs) h g = ((h.0, g.0), all-both P Q xs h.1 g.1)

-- what holds of all that the parts give
all-parts : {X Y : Type 0} (P : Y → Type 0) (f : X → List Y) (xs : List X) → AllByRecursion P (flat_map f xs) → AllByRecursion (λ x. AllByRecursion P (f x)) xs
all-parts P f [] h = tt
all-parts P f (x ∷ xs) h = (all-left P (f x) (flat_map f xs) h, all-parts P f xs (all-right P (f x) (flat_map f xs) h))

-- equal functions give equal lists
pub flat_map-same : {X Y : Type 0} (f g : X → List Y) (xs : List X) → AllByRecursion (λ x. f x ≡ g x) xs → flat_map f xs ≡ flat_map g xs
flat_map-same f g [] h = refl
flat_map-same f g (x ∷ xs) h = λ i. h.0 i ++ flat_map-same f g xs h.1 i

-- mapping a list of parts is mapping each part
map-parts : {X Y Z : Type 0} (h : Y → Z) (f : X → List Y) (xs : List X) → map h (flat_map f xs) ≡ flat_map (λ x. map h (f x)) xs
map-parts h f [] = refl
map-parts h f (x ∷ xs) = map-append h (f x) (flat_map f xs) ∙ ap (λ l. map h (f x) ++ l) (map-parts h f xs)

-- a part isn't longer than all of them
pub parts-length : {X Y : Type 0} (f : X → List Y) (xs : List X) (n : ℕ) → length (flat_map f xs) ≤ n → AllByRecursion (λ x. length (f x) ≤ n) xs
parts-length f [] n h = tt
parts-length f (x ∷ xs) n h =
    let sum : length (f x ++ flat_map f xs) ≡ length (f x) + length (flat_map f xs) = length-append (f x) (flat_map f xs) in
    (omega (arith, sum, h), parts-length f xs n (omega (arith, sum, h)))

-- the CID of a visit
abbrev pub cid_of : Arrival → List ℕ
cid_of a = a.cid

-- roots have depth 0
pub roots-depth : (root : ℕ) (cs : List (List ℕ)) → AllByRecursion (λ b. b.depth ≡ 0) (roots_from root cs)
roots-depth root [] = tt
roots-depth root (c ∷ cs) = (refl, roots-depth (root + 1) cs)

module _ (enters : Path → Bool) where
  -- ---- the arrivals below a node, link by link

  module _ (make : List ℕ → Path → Arrival) (f : Arrival → List Arrival) where
    chosen-parts : (b : Bool) (x y : List Arrival) → x ≡ flat_map f y → (if b then x else []) ≡ flat_map f (if b then y else [])
    chosen-parts true x y h = h
    chosen-parts false x y h = refl

    mutual
      below-links : (d : Data) (p : Path) → arrivals_below enters (λ c q. f (make c q)) d p ≡ flat_map f (arrivals_below enters (λ c q. make c q ∷ []) d p)
      below-links nodes.null p = refl
      below-links (nodes.boolean b) p = refl
      below-links (nodes.integer n) p = refl
      below-links (nodes.float bits) p = refl
      below-links (nodes.bytes b) p = refl
      below-links (nodes.text t) p = refl
      below-links (nodes.list ds) p = items-links 0 ds p
      below-links (nodes.map es) p = entries-links es p
      below-links (nodes.link c) p = sym (append-nil (f (make c p)))

      items-links : (n : ℕ) (ds : Items) (p : Path) → arrivals_in_items enters (λ c q. f (make c q)) n ds p ≡ flat_map f (arrivals_in_items enters (λ c q. make c q ∷ []) n ds p)
      items-links n no_items p = refl
      items-links n (item d ds) p =
          (λ i. chosen-parts (enters (behind p (nth n))) _ _ (below-links d (behind p (nth n))) i ++ items-links (n + 1) ds p i)
          ∙ sym (flat_map-append f (if enters (behind p (nth n)) then arrivals_below enters (λ c q. make c q ∷ []) d (behind p (nth n)) else []) (arrivals_in_items enters (λ c q. make c q ∷ []) (n + 1) ds p))

      entries-links : (es : Entries) (p : Path) → arrivals_in_entries enters (λ c q. f (make c q)) es p ≡ flat_map f (arrivals_in_entries enters (λ c q. make c q ∷ []) es p)
      entries-links no_entries p = refl
      entries-links (entry k d es) p =
          (λ i. chosen-parts (enters (behind p (key k))) _ _ (below-links d (behind p (key k))) i ++ entries-links es p i)
          ∙ sym (flat_map-append f (if enters (behind p (key k)) then arrivals_below enters (λ c q. make c q ∷ []) d (behind p (key k)) else []) (arrivals_in_entries enters (λ c q. make c q ∷ []) es p))

  module _ (make : List ℕ → Path → Arrival) (P : Arrival → Type 0) (made : (c : List ℕ) (q : Path) → P (make c q)) where
    chosen-all : (b : Bool) (x : List Arrival) → AllByRecursion P x → AllByRecursion P (if b then x else [])
    chosen-all true x h = h
    chosen-all false x h = tt

    mutual
      below-all : (d : Data) (p : Path) → AllByRecursion P (arrivals_below enters (λ c q. make c q ∷ []) d p)
      below-all nodes.null p = tt
      below-all (nodes.boolean b) p = tt
      below-all (nodes.integer n) p = tt
      below-all (nodes.float bits) p = tt
      below-all (nodes.bytes b) p = tt
      below-all (nodes.text t) p = tt
      below-all (nodes.list ds) p = items-all 0 ds p
      below-all (nodes.map es) p = entries-all es p
      below-all (nodes.link c) p = (made c p, tt)

      items-all : (n : ℕ) (ds : Items) (p : Path) → AllByRecursion P (arrivals_in_items enters (λ c q. make c q ∷ []) n ds p)
      items-all n no_items p = tt
      items-all n (item d ds) p =
          all-append P _ _ (chosen-all (enters (behind p (nth n))) _ (below-all d (behind p (nth n)))) (items-all (n + 1) ds p)

      entries-all : (es : Entries) (p : Path) → AllByRecursion P (arrivals_in_entries enters (λ c q. make c q ∷ []) es p)
      entries-all no_entries p = tt
      entries-all (entry k d es) p = all-append P _ _ (chosen-all (enters (behind p (key k))) _ (below-all d (behind p (key k)))) (entries-all es p)

  -- ---- the same is entered after two paths

  -- the same is entered after both paths
  abbrev pub Alike : Path → Path → Type 0
  Alike p q = (r : Path) → enters (p ++ r) ≡ enters (q ++ r)

  -- and so it is after one more step
  alike-behind : (p q : Path) (t : Step) → Alike p q → Alike (behind p t) (behind q t)
  alike-behind p q t h r = ap enters (append_assoc p (t ∷ []) r) ∙ h (t ∷ r) ∙ ap enters (sym (append_assoc q (t ∷ []) r))

  module _ (one other : Crossing) (cross : (c : List ℕ) (p q : Path) → Alike p q → map cid_of (one c p) ≡ map cid_of (other c q)) where
    chosen-cids : (a b : Bool) (x y : List Arrival) → a ≡ b → map cid_of x ≡ map cid_of y → map cid_of (if a then x else []) ≡ map cid_of (if b then y else [])
    chosen-cids a b x y is h =
        ap (λ v. map cid_of (if v then x else [])) is ∙ elim b as (λ v. map cid_of (if v then x else []) ≡ map cid_of (if v then y else [])) [ true ↦ h | false ↦ refl ]

    joined-cids : (x y x' y' : List Arrival) → map cid_of x ≡ map cid_of x' → map cid_of y ≡ map cid_of y' → map cid_of (x ++ y) ≡ map cid_of (x' ++ y')
    joined-cids x y x' y' h g = map-append cid_of x y ∙ (λ i. h i ++ g i) ∙ sym (map-append cid_of x' y')

    mutual
      below-cids : (d : Data) (p q : Path) → Alike p q → map cid_of (arrivals_below enters one d p) ≡ map cid_of (arrivals_below enters other d q)
      below-cids nodes.null p q h = refl
      below-cids (nodes.boolean b) p q h = refl
      below-cids (nodes.integer n) p q h = refl
      below-cids (nodes.float bits) p q h = refl
      below-cids (nodes.bytes b) p q h = refl
      below-cids (nodes.text t) p q h = refl
      below-cids (nodes.list ds) p q h = items-cids 0 ds p q h
      below-cids (nodes.map es) p q h = entries-cids es p q h
      below-cids (nodes.link c) p q h = cross c p q h

      items-cids : (n : ℕ) (ds : Items) (p q : Path) → Alike p q → map cid_of (arrivals_in_items enters one n ds p) ≡ map cid_of (arrivals_in_items enters other n ds q)
      items-cids n no_items p q h = refl
      items-cids n (item d ds) p q h =
          joined-cids _ _ _ _ (chosen-cids (enters (behind p (nth n))) (enters (behind q (nth n))) _ _ (h (nth n ∷ [])) (below-cids d (behind p (nth n)) (behind q (nth n)) (alike-behind p q (nth n) h)))
          (items-cids (n + 1) ds p q h)

      entries-cids : (es : Entries) (p q : Path) → Alike p q → map cid_of (arrivals_in_entries enters one es p) ≡ map cid_of (arrivals_in_entries enters other es q)
      entries-cids no_entries p q h = refl
      entries-cids (entry k d es) p q h =
          joined-cids _ _ _ _ (chosen-cids (enters (behind p (key k))) (enters (behind q (key k))) _ _ (h (key k ∷ [])) (below-cids d (behind p (key k)) (behind q (key k)) (alike-behind p q (key k) h)))
          (entries-cids es p q h)

  -- ---- the tree of an arrival

  module _ (inside : Inside) where
    -- the arrivals right below one
    abbrev pub links_at : Arrival → List Arrival
    links_at a = when_some (inside a.cid) (λ d. links_below enters d a)

    -- an arrival and those below it, where at most n links are crossed
    abbrev pub tree : ℕ → Arrival → List Arrival
    tree n a = arrivals_at enters inside a.root n a.depth a.cid a.path

    abbrev pub tree_cids : ℕ → Arrival → List (List ℕ)
    tree_cids n a = map cid_of (tree n a)

    -- the arrivals at these links below one
    below-tree : (n : ℕ) (a : Arrival) (o : Option Data)
        → when_some o (λ d. arrivals_below enters (arrivals_at enters inside a.root n (a.depth + 1)) d a.path) ≡ flat_map (tree n) (when_some o (λ d. links_below enters d a))
    below-tree n a None = refl
    below-tree n a (Some d) = below-links (λ c q. record { root = a.root; path = q; depth = a.depth + 1; cid = c }) (tree n) d a.path

    tree-links : (n : ℕ) (a : Arrival) → tree (suc n) a ≡ a ∷ flat_map (tree n) (links_at a)
    tree-links n a = ap (λ l. a ∷ l) (below-tree n a (inside a.cid))

    pub cids-links : (n : ℕ) (a : Arrival) → tree_cids (suc n) a ≡ a.cid ∷ flat_map (tree_cids n) (links_at a)
    cids-links n a = ap (map cid_of) (tree-links n a) ∙ ap (λ l. a.cid ∷ l) (map-parts cid_of (tree n) (links_at a))

    pub links-depth : (a : Arrival) (o : Option Data) → AllByRecursion (λ b. b.depth ≡ a.depth + 1) (when_some o (λ d. links_below enters d a))
    links-depth a None = tt
    links-depth a (Some d) = below-all (λ c q. record { root = a.root; path = q; depth = a.depth + 1; cid = c }) (λ b. b.depth ≡ a.depth + 1) (λ c q. refl) d a.path

    -- the CIDs of a tree are those of the CID's and of what is entered after its path
    at-alike : (n root other k l : ℕ) (c : List ℕ) (p q : Path) → Alike p q → map cid_of (arrivals_at enters inside root n k c p) ≡ map cid_of (arrivals_at enters inside other n l c q)
    at-alike zero root other k l c p q h = refl
    at-alike (suc n) root other k l c p q h =
        ap (λ l. c ∷ l) (elim (inside c) as (λ o. map cid_of (when_some o (λ d. arrivals_below enters (arrivals_at enters inside root n (k + 1)) d p)) ≡ map cid_of (when_some o (λ d. arrivals_below enters (arrivals_at enters inside other n (l + 1)) d q))) [
          | None ↦ refl
          | Some d ↦ below-cids (arrivals_at enters inside root n (k + 1)) (arrivals_at enters inside other n (l + 1)) (λ c p q g. at-alike n root other (k + 1) (l + 1) c p q g) d p q h
        ])

    pub tree-alike : (n : ℕ) (a b : Arrival) → a.cid ≡ b.cid → Alike a.path b.path → tree_cids n a ≡ tree_cids n b
    tree-alike n a b is h =
        ap (λ c. map cid_of (arrivals_at enters inside a.root n a.depth c a.path)) is ∙ at-alike n a.root b.root a.depth b.depth b.cid a.path b.path h

    -- ---- trees that end before n links

    abbrev pub Ends : ℕ → Arrival → Type 0
    Ends zero a = ⊥
    Ends (suc n) a = AllByRecursion (Ends n) (links_at a)

    ends-more : (n : ℕ) (a : Arrival) → Ends n a → Ends (suc n) a
    ends-more zero a h = absurd h
    ends-more (suc n) a h = all-weaker (Ends n) (Ends (suc n)) (ends-more n) (links_at a) h

    pub ends-links : (n : ℕ) (a : Arrival) → Ends n a → AllByRecursion (Ends n) (links_at a)
    ends-links zero a h = absurd h
    ends-links (suc n) a h = all-weaker (Ends n) (Ends (suc n)) (ends-more n) (links_at a) h

    tree-more : (n : ℕ) (a : Arrival) → Ends n a → tree n a ≡ tree (suc n) a
    tree-more zero a h = absurd h
    tree-more (suc n) a h =
        tree-links n a ∙ ap (λ l. a ∷ l) (flat_map-same (tree n) (tree (suc n)) (links_at a) (all-weaker (Ends n) (λ b. tree n b ≡ tree (suc n) b) (tree-more n) (links_at a) h)) ∙ sym (tree-links (suc n) a)

    -- such a tree has those of the links below it
    tree-opened : (n : ℕ) (a : Arrival) → Ends n a → tree n a ≡ a ∷ flat_map (tree n) (links_at a)
    tree-opened zero a h = absurd h
    tree-opened (suc n) a h =
        tree-links n a ∙ ap (λ l. a ∷ l) (flat_map-same (tree n) (tree (suc n)) (links_at a) (all-weaker (Ends n) (λ b. tree n b ≡ tree (suc n) b) (tree-more n) (links_at a) h))

    pub cids-opened : (n : ℕ) (a : Arrival) → Ends n a → tree_cids n a ≡ a.cid ∷ flat_map (tree_cids n) (links_at a)
    cids-opened n a h = ap (map cid_of) (tree-opened n a h) ∙ ap (λ l. a.cid ∷ l) (map-parts cid_of (tree n) (links_at a))

    -- what is below a link is shorter
    pub links-shorter : (n : ℕ) (a : Arrival) → Ends n a → AllByRecursion (λ b. length (tree_cids n b) < length (tree_cids n a)) (links_at a)
    links-shorter n a h =
        let size : length (tree_cids n a) ≡ suc (length (flat_map (tree_cids n) (links_at a))) = ap length (cids-opened n a h) in
        all-weaker (λ b. length (tree_cids n b) ≤ length (flat_map (tree_cids n) (links_at a))) (λ b. length (tree_cids n b) < length (tree_cids n a)) (λ b g. omega (arith, size, g)) (links_at a)
        (parts-length (tree_cids n) (links_at a) (length (flat_map (tree_cids n) (links_at a))) (omega arith))

    -- it ends where no arrival lies too deep
    ends-by_depth : (n bound : ℕ) (a : Arrival) → a.depth + n ≡ bound → AllByRecursion (λ b. b.depth < bound) (tree n a) → Ends n a
    ends-by_depth zero bound a is h = let least = h.0 in absurd (omega (arith, is, least))
    ends-by_depth (suc n) bound a is h =
        let shallow : AllByRecursion (λ b. b.depth < bound) (a ∷ flat_map (tree n) (links_at a)) = subst (AllByRecursion (λ b. b.depth < bound)) (tree-links n a) h in
        all-weaker (λ b. (b.depth ≡ a.depth + 1) × AllByRecursion (λ e. e.depth < bound) (tree n b)) (Ends n)
        (λ b g. let deep = g.0 in ends-by_depth n bound b (omega (arith, is, deep)) g.1) (links_at a)
        (all-both (λ b. b.depth ≡ a.depth + 1) (λ b. AllByRecursion (λ e. e.depth < bound) (tree n b)) (links_at a) (links-depth a (inside a.cid)) (all-parts (λ b. b.depth < bound) (tree n) (links_at a) shallow.1))

    -- or where there are no more than n arrivals
    ends-by_length : (n : ℕ) (a : Arrival) → length (tree n a) ≤ n → Ends n a
    ends-by_length zero a h = absurd (omega (arith, h))
    ends-by_length (suc n) a h =
        let short : suc (length (flat_map (tree n) (links_at a))) ≤ suc n = subst (λ l. length l ≤ suc n) (tree-links n a) h in
        all-weaker (λ b. length (tree n b) ≤ n) (Ends n) (ends-by_length n) (links_at a) (parts-length (tree n) (links_at a) n (omega (arith, short)))

    -- ---- all roots

    pub from-trees : (n root : ℕ) (cs : List (List ℕ)) → arrivals_from enters inside n root cs ≡ flat_map (tree n) (roots_from root cs)
    from-trees n root [] = refl
    from-trees n root (c ∷ cs) = ap (λ l. arrivals_at enters inside root n 0 c [] ++ l) (from-trees n (root + 1) cs)

    pub from-cids : (n root : ℕ) (cs : List (List ℕ)) → map cid_of (arrivals_from enters inside n root cs) ≡ flat_map (tree_cids n) (roots_from root cs)
    from-cids n root cs = ap (map cid_of) (from-trees n root cs) ∙ map-parts cid_of (tree n) (roots_from root cs)

    pub roots-by_depth : (n : ℕ) (cs : List (List ℕ)) → AllByRecursion (λ a. a.depth < n) (arrivals_from enters inside n 0 cs) → AllByRecursion (Ends n) (roots_from 0 cs)
    roots-by_depth n cs h =
        let shallow : AllByRecursion (λ a. a.depth < n) (flat_map (tree n) (roots_from 0 cs)) = subst (AllByRecursion (λ a. a.depth < n)) (from-trees n 0 cs) h in
        all-weaker (λ b. (b.depth ≡ 0) × AllByRecursion (λ e. e.depth < n) (tree n b)) (Ends n)
        (λ b g. let top = g.0 in ends-by_depth n n b (omega (arith, top)) g.1) (roots_from 0 cs)
        (all-both (λ b. b.depth ≡ 0) (λ b. AllByRecursion (λ e. e.depth < n) (tree n b)) (roots_from 0 cs) (roots-depth 0 cs) (all-parts (λ b. b.depth < n) (tree n) (roots_from 0 cs) shallow))

    pub roots-by_length : (n : ℕ) (cs : List (List ℕ)) → length (arrivals_from enters inside n 0 cs) ≤ n → AllByRecursion (Ends n) (roots_from 0 cs)
    roots-by_length n cs h =
        all-weaker (λ b. length (tree n b) ≤ n) (Ends n) (ends-by_length n) (roots_from 0 cs)
        (parts-length (tree n) (roots_from 0 cs) n (subst (λ l. length l ≤ n) (from-trees n 0 cs) h))
