-- The roots of a line, read one after another.
use Rattle.std.proofs.Common.{◌≡◌, ℕ, suc, ◌+◌, ◌<◌, ◌≤◌, ◌==◌, Bool, List, [], ◌∷◌, ◌++◌, length, take, drop, get_or, Result, Ok, Err, refl, sym, ◌∙◌, ap, subst, add-one, drop-cons, arith}
use Rattle.std.specs.Prelude.{if◌then◌else◌}
use Rattle.std.proofs.lemmas.List.Splits.{length-slice_split}
use Rattle.std.proofs.lemmas.List.{take-append-drop}
use Rattle.std.proofs.lemmas.Bool.{lt-ltb, le-ltb}
use Rattle.ix_jobs.specs.declared.fault.JobErrorKind.{JobErrorKind}
use Rattle.ix_jobs.specs.declared.fault.JobErrorKind.TheVariants.{Memory, Root}
use Rattle.ix_jobs.specs.Jobs.{◌>>=◌, root_in, cids_in, root_texts, roots_in}
use Rattle.ix_jobs.specs.Gives.{FailsAs}

abbrev One : Type 0
One = Result (List ℕ) JobErrorKind

abbrev Many : Type 0
Many = Result (List (List ℕ)) JobErrorKind

-- those of one, and after them those of another
abbrev then_those : Many → Many → Many
then_those s t = s >>= (λ cs. t >>= (λ ds. Ok (cs ++ ds)))

-- one more before
abbrev before : List ℕ → Many → Many
before c s = s >>= (λ cs. Ok (c ∷ cs))

before_those : (c : List ℕ) (s t : Many) → before c (then_those s t) ≡ then_those (before c s) t
before_those c (Err e) t = refl
before_those c (Ok cs) (Err e) = refl
before_those c (Ok cs) (Ok ds) = refl

-- the first root, and then those of both lists
first_before : (r : One) (s t both : Many) → both ≡ then_those s t → (r >>= (λ c. before c both)) ≡ then_those (r >>= (λ c. before c s)) t
first_before (Err e) s t both h = refl
first_before (Ok c) s t both h = ap (before c) h ∙ before_those c s t

-- no roots before others leave them
only_those : (t : Many) → t ≡ then_those (Ok []) t
only_those (Err e) = refl
only_those (Ok ds) = refl

-- the CIDs of two lists of texts
cids_in-append : (ts us : List (List ℕ)) → cids_in (ts ++ us) ≡ then_those (cids_in ts) (cids_in us)
cids_in-append [] us = only_those (cids_in us)
cids_in-append (t ∷ ts) us = first_before (root_in t) (cids_in ts) (cids_in us) (cids_in (ts ++ us)) (cids_in-append ts us)

-- one text more is read
pub one_more : (ts : List (List ℕ)) (t : List ℕ) (cs : List (List ℕ)) (c : List ℕ) → cids_in ts ≡ Ok cs → root_in t ≡ Ok c → cids_in (ts ++ t ∷ []) ≡ Ok (cs ++ c ∷ [])
one_more ts t cs c h k = cids_in-append ts (t ∷ []) ∙ ap (λ (s : Many). then_those s (cids_in (t ∷ []))) h ∙ ap (λ (r : One). then_those (Ok cs) (r >>= (λ c. Ok (c ∷ [])))) k

fails_at : (ts : List (List ℕ)) (t : List ℕ) (more cs : List (List ℕ)) (kind : JobErrorKind) → cids_in ts ≡ Ok cs → root_in t ≡ Err kind → cids_in (ts ++ t ∷ more) ≡ Err kind
fails_at ts t more cs kind h k =
    cids_in-append ts (t ∷ more) ∙ ap (λ (s : Many). then_those s (cids_in (t ∷ more))) h ∙ ap (λ (r : One). then_those (Ok cs) (r >>= (λ c. before c (cids_in more)))) k

-- a list, cut at one of its elements
cut_at : (xs : List (List ℕ)) (n : ℕ) (x : List ℕ) → n < length xs → x ≡ get_or xs n x → xs ≡ take n xs ++ x ∷ drop (n + 1) xs
cut_at xs n x lt is =
    sym (take-append-drop n xs) ∙ ap (λ (l : List (List ℕ)). take n xs ++ l) (drop-cons xs n x lt) ∙ ap (λ (y : List ℕ). take n xs ++ y ∷ drop (suc n) xs) (sym is) ∙ ap (λ (m : ℕ). take n xs ++ x ∷ drop m xs) (sym (add-one n))

-- a text is faulty after so many that were read
pub one_faulty : (parts ts : List (List ℕ)) (n : ℕ) (t : List ℕ) (cs : List (List ℕ)) (kind : JobErrorKind) → ts ≡ take n parts → n < length parts → t ≡ get_or parts n t → cids_in ts ≡ Ok cs → FailsAs kind kind (root_in t)
    → FailsAs kind kind (cids_in parts)
one_faulty parts ts n t cs Memory so_far lt here h k = tt
one_faulty parts ts n t cs kind so_far lt here h k =
    ap cids_in (cut_at parts n t lt here) ∙ ap (λ (us : List (List ℕ)). cids_in (us ++ t ∷ drop (n + 1) parts)) (sym so_far) ∙ fails_at ts t (drop (n + 1) parts) cs kind h k

-- there are too many texts
pub too_many : (text : List ℕ) (n : ℕ) → n ≡ length (root_texts text) → 64 < n → roots_in text ≡ Err Root
too_many text n is many = ap (λ (b : Bool). if b then Err Root else cids_in (root_texts text)) (lt-ltb 64 (length (root_texts text)) (subst (λ (m : ℕ). 64 < m) is many))

-- at most 64 roots are read as the CIDs of their texts
pub not_too_many : (text : List ℕ) (n : ℕ) → n ≡ length (root_texts text) → n ≤ 64 → roots_in text ≡ cids_in (root_texts text)
not_too_many text n is few = ap (λ (b : Bool). if b then Err Root else cids_in (root_texts text)) (le-ltb 64 (length (root_texts text)) (subst (λ (m : ℕ). m ≤ 64) is few))

-- there is one at least
pub some_text : (text : List ℕ) → 1 ≤ length (root_texts text)
some_text text = omega (arith, length-slice_split (λ b. b == 44) text)
