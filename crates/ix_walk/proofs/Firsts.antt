-- The first ones of CIDs, where some were seen before.
use Rattle.std.proofs.Common.{◌≡◌, ◌⊎◌, inl, inr, ℕ, Bool, true, false, not, ◌&&◌, ◌||◌, List, [], ◌∷◌, ◌++◌, filter, refl, sym, ap, subst, ◌∙◌}
use Rattle.std.specs.Prelude.{if◌then◌else◌, bytes_eq}
use Rattle.std.proofs.lemmas.Slice.Eq.{bytes_eq-Decides}
use Rattle.std.proofs.lemmas.List.Elements.{filter_agree}
use Rattle.ix_walk.specs.Once.{first_ones}

-- a CID is among these
abbrev pub In : List ℕ → List (List ℕ) → Type 0
In c [] = ⊥
In c (d ∷ ds) = (d ≡ c) ⊎ In c ds

-- an element of a concatenation is in one of its parts
pub in-append : (c : List ℕ) (xs ys : List (List ℕ)) → In c (xs ++ ys) → In c xs ⊎ In c ys
in-append c [] ys h = inr h
in-append c (x ∷ xs) ys (inl e) = inl (inl e)
in-append c (x ∷ xs) ys (inr h) = elim (in-append c xs ys h) [ inl g ↦ inl (inr g) | inr g ↦ inr g ]

-- one filter after another
pub filter-both : {X : Type 0} (p q r : X → Bool) → ((x : X) → (q x && p x) ≡ r x) → (xs : List X) → filter p (filter q xs) ≡ filter r xs
filter-both p q r h [] = refl
filter-both p q r h (x ∷ xs) =
    (elim (q x) as (λ b. ((b && p x) ≡ r x) → filter p (if b then x ∷ filter q xs else filter q xs) ≡ (if r x then x ∷ filter r xs else filter r xs)) [
      | true ↦ λ e. λ i. if e i then x ∷ filter-both p q r h xs i else filter-both p q r h xs i
      | false ↦ λ e. λ i. if e i then x ∷ filter r xs else filter-both p q r h xs i
    ])
    (h x)

-- what passes is in what a filter leaves
pub filter-in : (p : List ℕ → Bool) (c : List ℕ) (xs : List (List ℕ)) → In c xs → p c ≡ true → In c (filter p xs)
filter-in p c [] h passes = absurd h
filter-in p c (x ∷ xs) (inl is) passes = subst (λ b. In c (if b then x ∷ filter p xs else filter p xs)) (sym (ap p is ∙ passes)) (inl is)
filter-in p c (x ∷ xs) (inr h) passes =
    elim (p x) as (λ b. In c (if b then x ∷ filter p xs else filter p xs)) [ true ↦ inr (filter-in p c xs h passes) | false ↦ filter-in p c xs h passes ]

-- an element that is left by a filter is in the list and passes
pub in-filter : (p : List ℕ → Bool) (c : List ℕ) (xs : List (List ℕ)) → In c (filter p xs) → In c xs × (p c ≡ true)
in-filter p c [] h = absurd h
in-filter p c (x ∷ xs) h =
    (elim (p x) as (λ b. p x ≡ b → In c (if b then x ∷ filter p xs else filter p xs) → In c (x ∷ xs) × (p c ≡ true)) [
      | true ↦ λ passes i. kept (in-filter p c xs) passes i
      | false ↦ λ _ i. (let r = in-filter p c xs i in (inr r.0, r.1))
    ])
    refl h where
      kept : (In c (filter p xs) → In c xs × (p c ≡ true)) → p x ≡ true → (x ≡ c) ⊎ In c (filter p xs) → In c (x ∷ xs) × (p c ≡ true)
      kept later passes (inl is) = (inl is, ap p (sym is) ∙ passes)
      kept later passes (inr i) = let r = later i in (inr r.0, r.1)

-- a filter that all pass changes nothing
filter-all : {X : Type 0} (xs : List X) → filter (λ (x : X). true) xs ≡ xs
filter-all [] = refl
filter-all (x ∷ xs) = ap (λ l. x ∷ l) (filter-all xs)

-- the first ones that weren't seen
abbrev pub unseen : (List ℕ → Bool) → List (List ℕ) → List (List ℕ)
unseen seen cs = filter (λ e. not (seen e)) (first_ones cs)

-- this one was seen too
abbrev pub and_this : List ℕ → (List ℕ → Bool) → List ℕ → Bool
and_this c seen e = bytes_eq e c || seen e

-- the CID itself was seen
pub this_seen : (c : List ℕ) (seen : List ℕ → Bool) (e : List ℕ) → c ≡ e → and_this c seen e ≡ true
this_seen c seen e is = ap (λ b. b || seen e) ((bytes_eq-Decides e c).1 (sym is))

-- and what was seen before stays so
pub still_seen : (c : List ℕ) (seen : List ℕ → Bool) (e : List ℕ) → seen e ≡ true → and_this c seen e ≡ true
still_seen c seen e h = elim (bytes_eq e c) as (λ b. (b || seen e) ≡ true) [ true ↦ refl | false ↦ h ]

-- not either is neither
neither : (b s : Bool) → (not b && not s) ≡ not (b || s)
neither true s = refl
neither false s = refl

-- one more CID in front: it is first unless it was seen
unseen-cons : (seen : List ℕ → Bool) (c : List ℕ) (cs : List (List ℕ)) → unseen seen (c ∷ cs) ≡ (if not (seen c) then c ∷ unseen (and_this c seen) cs else unseen (and_this c seen) cs)
unseen-cons seen c cs =
    let rest : filter (λ e. not (seen e)) (filter (λ e. not (bytes_eq e c)) (first_ones cs)) ≡ unseen (and_this c seen) cs =
    filter-both (λ e. not (seen e)) (λ e. not (bytes_eq e c)) (λ e. not (and_this c seen e)) (λ e. neither (bytes_eq e c) (seen e)) (first_ones cs) in
    λ i. if not (seen c) then c ∷ rest i else rest i

-- after one, what follows is distinguished as if that was seen too
pub unseen-behind : (seen : List ℕ → Bool) (c : List ℕ) (xs ys : List (List ℕ)) → unseen (and_this c seen) xs ≡ unseen (and_this c seen) ys → unseen seen (c ∷ xs) ≡ unseen seen (c ∷ ys)
unseen-behind seen c xs ys h = unseen-cons seen c xs ∙ (λ i. if not (seen c) then c ∷ h i else h i) ∙ sym (unseen-cons seen c ys)

-- a CID that was seen anyway
seen_anyway : (b s : Bool) → (b ≡ true → s ≡ true) → not (b || s) ≡ not s
seen_anyway true s h = ap not (sym (h refl))
seen_anyway false s h = refl

-- a CID that was seen is left out
unseen-again : (seen : List ℕ → Bool) (c : List ℕ) (cs : List (List ℕ)) → seen c ≡ true → unseen seen (c ∷ cs) ≡ unseen seen cs
unseen-again seen c cs was =
    unseen-cons seen c cs ∙ ap (λ b. if not b then c ∷ unseen (and_this c seen) cs else unseen (and_this c seen) cs) was
    ∙ filter_agree (λ e. not (and_this c seen e)) (λ e. not (seen e)) (λ e. seen_anyway (bytes_eq e c) (seen e) (λ is. ap seen ((bytes_eq-Decides e c).0 is) ∙ was)) (first_ones cs)

-- what was seen already is passed over
pub unseen-seen : (seen : List ℕ → Bool) (xs ys : List (List ℕ)) → ((c : List ℕ) → In c xs → seen c ≡ true) → unseen seen (xs ++ ys) ≡ unseen seen ys
unseen-seen seen [] ys h = refl
unseen-seen seen (x ∷ xs) ys h = unseen-again seen x (xs ++ ys) (h x (inl refl)) ∙ unseen-seen seen xs ys (λ c i. h c (inr i))

-- where nothing was seen
pub unseen-none : (cs : List (List ℕ)) → unseen (λ (e : List ℕ). false) cs ≡ first_ones cs
unseen-none cs = filter-all (first_ones cs)

-- the first ones are the same CIDs
pub first_ones-in : (c : List ℕ) (xs : List (List ℕ)) → In c (first_ones xs) → In c xs
first_ones-in c [] h = h
first_ones-in c (x ∷ xs) (inl is) = inl is
first_ones-in c (x ∷ xs) (inr h) = inr (first_ones-in c xs (in-filter (λ e. not (bytes_eq e x)) c (first_ones xs) h).0)

-- each CID is among the first ones
pub in-first_ones : (c : List ℕ) (xs : List (List ℕ)) → In c xs → In c (first_ones xs)
in-first_ones c [] h = h
in-first_ones c (x ∷ xs) (inl is) = inl is
in-first_ones c (x ∷ xs) (inr h) =
    (elim (bytes_eq c x) as (λ b. bytes_eq c x ≡ b → In c (first_ones (x ∷ xs))) [
      | true ↦ λ is. inl (sym ((bytes_eq-Decides c x).0 is))
      | false ↦ λ isnt. inr (filter-in (λ e. not (bytes_eq e x)) c (first_ones xs) (in-first_ones c xs h) (ap not isnt))
    ])
    refl
