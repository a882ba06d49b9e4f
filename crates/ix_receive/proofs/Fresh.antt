-- CIDs that a base doesn't have, each at its first occurrence.
use Rattle.std.proofs.Common.{◌≡◌, Bool, true, false, not, ◌&&◌, List, ℕ, [], ◌∷◌, ◌++◌, filter, refl, sym, ap, ◌∙◌, subst}
use Rattle.std.specs.Prelude.{if◌then◌else◌}
use Rattle.std.proofs.lemmas.List.Elements.{filter-append}
use Rattle.ix_store.specs.Store.{Blocks, has_cid}
use Rattle.ix_walk.specs.Once.{first_ones}
use Rattle.ix_walk.proofs.Firsts.{In, filter-both, filter-in, in-filter, first_ones-in, in-first_ones}
use Rattle.ix_receive.specs.Own.{base_known}
use Rattle.ix_receive.specs.Receiving.{new_cids}
use Rattle.ix_receive.proofs.Firsts.{first-stay, first-split, first-last, AreApart, filter-apart, first-apart}

-- a base doesn't have a CID
abbrev pub outside : Blocks → List ℕ → Bool
outside base c = not (has_cid base c)

-- the first ones of CIDs that a base doesn't have
abbrev pub fresh : Blocks → List (List ℕ) → List (List ℕ)
fresh base cs = new_cids (base_known base) (first_ones cs)

-- a filter that all pass changes nothing
filter-all : (cs : List (List ℕ)) → filter (λ (c : List ℕ). true) cs ≡ cs
filter-all [] = refl
filter-all (c ∷ cs) = ap (λ l. c ∷ l) (filter-all cs)

-- they are those that pass
pub fresh-is : (base : Blocks) (cs : List (List ℕ)) → fresh base cs ≡ filter (outside base) (first_ones cs)
fresh-is [] cs = sym (filter-all (first_ones cs))
fresh-is (p ∷ ps) cs = refl

-- what a negation is the negation of
not-true : (b : Bool) → not b ≡ true → b ≡ false
not-true true h = absurd (cc h)
not-true false h = refl

-- they are among the CIDs, and not in the base
pub in-fresh : (base : Blocks) (c : List ℕ) (cs : List (List ℕ)) → In c (fresh base cs) → In c cs × (has_cid base c ≡ false)
in-fresh base c cs i =
    let r = in-filter (outside base) c (first_ones cs) (subst (In c) (fresh-is base cs) i) in
    (first_ones-in c cs r.0, not-true (has_cid base c) r.1)

-- and all those are among them
pub fresh-in : (base : Blocks) (c : List ℕ) (cs : List (List ℕ)) → In c cs → has_cid base c ≡ false → In c (fresh base cs)
fresh-in base c cs i out = subst (In c) (sym (fresh-is base cs)) (filter-in (outside base) c (first_ones cs) (in-first_ones c cs i) (ap not out))

-- more CIDs change nothing, if those of them that pass are there before, or in the base
pub fresh-stay : (q : List ℕ → Bool) (base : Blocks) (cs ds : List (List ℕ)) → ((d : List ℕ) → In d ds → q d ≡ true → has_cid base d ≡ false → In d cs) → filter q (fresh base (cs ++ ds)) ≡ filter q (fresh base cs)
fresh-stay q base cs ds h =
    let both : List ℕ → Bool = λ e. outside base e && q e in
    all (cs ++ ds) ∙ first-stay both cs ds (λ d i passes. later d i (has_cid base d) refl passes) ∙ sym (all cs) where
      all : (xs : List (List ℕ)) → filter q (fresh base xs) ≡ filter (λ e. outside base e && q e) (first_ones xs)
      all xs = ap (filter q) (fresh-is base xs) ∙ filter-both q (outside base) (λ e. outside base e && q e) (λ e. refl) (first_ones xs)

      later : (d : List ℕ) → In d ds → (b : Bool) → has_cid base d ≡ b → (not (has_cid base d) && q d) ≡ true → In d cs
      later d i true is passes = absurd (let bad : false ≡ true = sym (ap (λ (b : Bool). not b && q d) is) ∙ passes in cc bad)
      later d i false isnt passes = h d i (sym (ap (λ (b : Bool). not b && q d) isnt) ∙ passes) isnt

-- one that isn't there and not in the base comes after the others
pub fresh-split : (base : Blocks) (c : List ℕ) (cs ds : List (List ℕ)) → (In c cs → ⊥) → has_cid base c ≡ false → (rest : List (List ℕ)) × (fresh base (cs ++ c ∷ ds) ≡ fresh base cs ++ c ∷ rest)
fresh-split base c cs ds new out =
    let r = first-split c cs ds new in
    let q = outside base in (
      filter q r.0,
      fresh-is base (cs ++ c ∷ ds) ∙ ap (filter q) r.1 ∙ filter-append q (first_ones cs) (c ∷ r.0) ∙ ap (λ l. l ++ filter q (c ∷ r.0)) (sym (fresh-is base cs))
          ∙ ap (λ (b : Bool). fresh base cs ++ (if b then c ∷ filter q r.0 else filter q r.0)) (ap not out),
    )

-- at the end it is the last
pub fresh-last : (base : Blocks) (c : List ℕ) (cs : List (List ℕ)) → (In c cs → ⊥) → has_cid base c ≡ false → fresh base (cs ++ c ∷ []) ≡ fresh base cs ++ c ∷ []
fresh-last base c cs new out =
    let q = outside base in
    fresh-is base (cs ++ c ∷ []) ∙ ap (filter q) (first-last c cs new) ∙ filter-append q (first_ones cs) (c ∷ []) ∙ ap (λ l. l ++ filter q (c ∷ [])) (sym (fresh-is base cs))
    ∙ ap (λ (b : Bool). fresh base cs ++ (if b then c ∷ [] else [])) (ap not out)

-- none of them is there twice
pub fresh-apart : (base : Blocks) (cs : List (List ℕ)) → AreApart (fresh base cs)
fresh-apart base cs = subst AreApart (sym (fresh-is base cs)) (filter-apart (outside base) (first_ones cs) (first-apart cs))
