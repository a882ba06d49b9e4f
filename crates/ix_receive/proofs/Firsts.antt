-- CIDs at their first occurrence, filtered.
use Rattle.std.proofs.Common.{◌≡◌, inl, inr, Bool, true, false, not, ◌&&◌, List, ℕ, [], ◌∷◌, ◌++◌, filter, map, refl, sym, ap, ◌∙◌}
use Rattle.std.specs.Prelude.{if◌then◌else◌, bytes_eq}
use Rattle.std.proofs.lemmas.List.Elements.{filter-append}
use Rattle.std.proofs.lemmas.Slice.Eq.{bytes_eq-Decides}
use Rattle.ix_store.specs.Store.{Blocks}
use Rattle.ix_walk.specs.Arrivals.{Arrival}
use Rattle.ix_walk.specs.Once.{first_ones}
use Rattle.ix_walk.proofs.Firsts.{In, filter-both, in-filter, first_ones-in}
use Rattle.ix_walk.proofs.Links.{cid_of}

-- a CID is no other
apart : (c e : List ℕ) → (c ≡ e → ⊥) → bytes_eq c e ≡ false
apart c e differ = by (bytes_eq c e) refl where
  by : (b : Bool) → bytes_eq c e ≡ b → b ≡ false
  by true is = absurd (differ ((bytes_eq-Decides c e).0 is))
  by false is = refl

-- nothing is left where nothing passes
none-left : (q : List ℕ → Bool) (cs : List (List ℕ)) → ((c : List ℕ) → In c cs → q c ≡ false) → filter q cs ≡ []
none-left q [] h = refl
none-left q (c ∷ cs) h = ap (λ b. if b then c ∷ filter q cs else filter q cs) (h c (inl refl)) ∙ none-left q cs (λ e i. h e (inr i))

-- more CIDs change nothing, if those of them that pass are there before
pub first-stay : (q : List ℕ → Bool) (cs ds : List (List ℕ)) → ((d : List ℕ) → In d ds → q d ≡ true → In d cs) → filter q (first_ones (cs ++ ds)) ≡ filter q (first_ones cs)
first-stay q [] ds h = none-left q (first_ones ds) (λ c i. by c (q c) refl (first_ones-in c ds i)) where
  by : (c : List ℕ) (b : Bool) → q c ≡ b → In c ds → b ≡ false
  by c true is i = absurd (h c i is)
  by c false is i = refl
first-stay q (c ∷ cs) ds h =
    let p : List ℕ → Bool = λ e. not (bytes_eq e c) in
    let both : List ℕ → Bool = λ e. p e && q e in
    let rest : filter q (filter p (first_ones (cs ++ ds))) ≡ filter q (filter p (first_ones cs)) =
    filter-both q p both (λ e. refl) (first_ones (cs ++ ds)) ∙ first-stay both cs ds (λ d i passes. later d i (bytes_eq d c) refl passes) ∙ sym (filter-both q p both (λ e. refl) (first_ones cs)) in
    λ i. if q c then c ∷ rest i else rest i where
      other : (d : List ℕ) → bytes_eq d c ≡ false → In d (c ∷ cs) → In d cs
      other d isnt (inl e) = absurd (let is = (bytes_eq-Decides d c).1 (sym e) in let bad : true ≡ false = sym is ∙ isnt in cc bad)
      other d isnt (inr i) = i

      later : (d : List ℕ) → In d ds → (b : Bool) → bytes_eq d c ≡ b → (not (bytes_eq d c) && q d) ≡ true → In d cs
      later d i true is passes = absurd (let bad : false ≡ true = sym (ap (λ (b : Bool). not b && q d) is) ∙ passes in cc bad)
      later d i false isnt passes = other d isnt (h d i (sym (ap (λ (b : Bool). not b && q d) isnt) ∙ passes))

-- a CID that isn't there comes after the first ones
pub first-split : (c : List ℕ) (cs ds : List (List ℕ)) → (In c cs → ⊥) → (rest : List (List ℕ)) × (first_ones (cs ++ c ∷ ds) ≡ first_ones cs ++ c ∷ rest)
first-split c [] ds new = (filter (λ e. not (bytes_eq e c)) (first_ones ds), refl)
first-split c (x ∷ xs) ds new =
    let p : List ℕ → Bool = λ e. not (bytes_eq e x) in
    let r = first-split c xs ds (λ i. new (inr i)) in
    let passes : p c ≡ true = ap not (apart c x (λ e. new (inl (sym e)))) in (
      filter p r.0,
      ap (λ l. x ∷ filter p l) r.1 ∙ ap (λ l. x ∷ l) (filter-append p (first_ones xs) (c ∷ r.0)) ∙ ap (λ b. x ∷ (filter p (first_ones xs) ++ (if b then c ∷ filter p r.0 else filter p r.0))) passes,
    )

-- a new CID at the end is the last of the first ones
pub first-last : (c : List ℕ) (cs : List (List ℕ)) → (In c cs → ⊥) → first_ones (cs ++ c ∷ []) ≡ first_ones cs ++ c ∷ []
first-last c [] new = refl
first-last c (x ∷ xs) new =
    let p : List ℕ → Bool = λ e. not (bytes_eq e x) in
    let passes : p c ≡ true = ap not (apart c x (λ e. new (inl (sym e)))) in
    ap (λ l. x ∷ filter p l) (first-last c xs (λ i. new (inr i))) ∙ ap (λ l. x ∷ l) (filter-append p (first_ones xs) (c ∷ []))
    ∙ ap (λ b. x ∷ (filter p (first_ones xs) ++ (if b then c ∷ [] else []))) passes

-- ---- no CID twice

-- each is no later one
abbrev pub AreApart : List (List ℕ) → Type 0
AreApart [] = Unit {0}
AreApart (c ∷ cs) = (In c cs → ⊥) × AreApart cs

-- so it is of what a filter leaves
pub filter-apart : (q : List ℕ → Bool) (cs : List (List ℕ)) → AreApart cs → AreApart (filter q cs)
filter-apart q [] h = tt
filter-apart q (c ∷ cs) h =
    elim (q c) as (λ b. AreApart (if b then c ∷ filter q cs else filter q cs)) [ true ↦ (λ i. h.0 (in-filter q c cs i).0, filter-apart q cs h.1) | false ↦ filter-apart q cs h.1 ]

-- and of the first ones
pub first-apart : (cs : List (List ℕ)) → AreApart (first_ones cs)
first-apart [] = tt
first-apart (c ∷ cs) = (
  λ i. (let r = (in-filter (λ e. not (bytes_eq e c)) c (first_ones cs) i).1 in let bad : false ≡ true = sym (ap not ((bytes_eq-Decides c c).1 refl)) ∙ r in cc bad),
  filter-apart (λ e. not (bytes_eq e c)) (first_ones cs) (first-apart cs),
)

-- one of them isn't before itself
pub not-before : (c : List ℕ) (cs ds : List (List ℕ)) → AreApart (cs ++ c ∷ ds) → In c cs → ⊥
not-before c [] ds h i = i
not-before c (x ∷ xs) ds h (inl is) = h.0 (there xs is) where
  there : (xs : List (List ℕ)) → x ≡ c → In x (xs ++ c ∷ ds)
  there [] e = inl (sym e)
  there (y ∷ ys) e = inr (there ys e)
not-before c (x ∷ xs) ds h (inr i) = not-before c xs ds h.1 i

-- ---- the first visit of a CID

-- visits up to the first with a CID
pub record IsFirstOf (c : List ℕ) (xs : List Arrival) : Type 0 where
  pub before : List Arrival
  pub visit : Arrival
  pub after : List Arrival
  pub all : xs ≡ before ++ visit ∷ after
  pub named : visit.cid ≡ c
  pub first : In c (map cid_of before) → ⊥

pub first-of : (c : List ℕ) (xs : List Arrival) → In c (map cid_of xs) → IsFirstOf c xs
first-of c [] h = absurd h
first-of c (x ∷ xs) h = by (bytes_eq x.cid c) refl h (first-of c xs) where
  by : (b : Bool) → bytes_eq x.cid c ≡ b → In c (map cid_of (x ∷ xs)) → (In c (map cid_of xs) → IsFirstOf c xs) → IsFirstOf c (x ∷ xs)
  by true is i later = record { before = []; visit = x; after = xs; all = refl; named = (bytes_eq-Decides x.cid c).0 is; first = λ h. h }
  by false isnt (inl e) later = absurd (let is = (bytes_eq-Decides x.cid c).1 e in let bad : true ≡ false = sym is ∙ isnt in cc bad)
  by false isnt (inr i) later =
      let r = later i in
      record {
        before = x ∷ r.before;
        visit = r.visit;
        after = r.after;
        all = ap (λ l. x ∷ l) r.all;
        named = r.named;
        first = λ h. new r.before h r.first;
      } where
        new : (ys : List Arrival) → In c (x.cid ∷ map cid_of ys) → (In c (map cid_of ys) → ⊥) → ⊥
        new ys (inl e) first = let is = (bytes_eq-Decides x.cid c).1 e in let bad : true ≡ false = sym is ∙ isnt in cc bad
        new ys (inr j) first = first j

-- ---- pairs by their CIDs

-- equal lists have equal heads and tails
head_tail : (x y : List ℕ × List ℕ) (xs ys : Blocks) → x ∷ xs ≡ y ∷ ys → (x ≡ y) × (xs ≡ ys)
head_tail x y xs ys e = (cc e, cc e)

-- two lists of pairs that are one are the same up to a pair whose CID neither has before
pub same-before : (c : List ℕ) (xs ys us vs : Blocks) (x u : List ℕ × List ℕ) → x.0 ≡ c → u.0 ≡ c → (In c (map (λ p. p.0) xs) → ⊥) → (In c (map (λ p. p.0) us) → ⊥) → xs ++ x ∷ ys ≡ us ++ u ∷ vs → xs ≡ us
same-before c [] ys [] vs x u named called new fresh e = refl
same-before c [] ys (w ∷ us) vs x u named called new fresh e =
    absurd (fresh (inl (ap (λ (p : List ℕ × List ℕ). p.0) (sym (head_tail x w ys (us ++ u ∷ vs) e).0) ∙ named)))
same-before c (z ∷ xs) ys [] vs x u named called new fresh e =
    absurd (new (inl (ap (λ (p : List ℕ × List ℕ). p.0) (head_tail z u (xs ++ x ∷ ys) vs e).0 ∙ called)))
same-before c (z ∷ xs) ys (w ∷ us) vs x u named called new fresh e =
    let r = head_tail z w (xs ++ x ∷ ys) (us ++ u ∷ vs) e in
    λ i. r.0 i ∷ same-before c xs ys us vs x u named called (λ h. new (inr h)) (λ h. fresh (inr h)) r.1 i
