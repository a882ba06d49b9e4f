-- The pairs that were checked: of a job, and of jobs in turn.
use Rattle.std.proofs.Common.{◌≡◌, ◌⊎◌, ℕ, zero, suc, ◌+◌, ◌<◌, ◌≤◌, List, [], ◌∷◌, ◌++◌, length, Contains, refl, sym, ◌∙◌, ap, subst, inl, inr, arith, append_assoc, append-nil}
use Rattle.std.proofs.lemmas.List.Elements.{Contains-append_left, Contains-append_cases, Contains-push, Contains-push_cases}
use Rattle.ix_pipeline.proofs.Members.{cases_cons, none_in, has_first, has_rest}
use Rattle.ix_pipeline.specs.Progress.{pairs_of}
use Rattle.ix_pipeline.specs.Headline.{IsEachOnce}

-- the pairs of jobs in turn, from a number on, each with so many visits
abbrev pub pairs_over : ℕ → List ℕ → List (ℕ × ℕ)
pairs_over n [] = []
pairs_over n (k ∷ ks) = pairs_of n k ++ pairs_over (n + 1) ks

-- which pairs a job has
pub in_pairs : (number k job seq : ℕ) → Contains (pairs_of number k) (job, seq) → (job ≡ number) × (seq < k)
in_pairs number zero job seq h = absurd (none_in (job, seq) h)
in_pairs number (suc k) job seq h =
    elim (Contains-push_cases (pairs_of number k) (number, k) (job, seq) h) [
      | inl before ↦ (let r = in_pairs number k job seq before in let lt : seq < k = r.1 in (r.0, omega arith))
      | inr last ↦
          (let same : k ≡ seq = ap (λ (p : ℕ × ℕ). p.1) last in (sym (ap (λ (p : ℕ × ℕ). p.0) last), omega arith))
    ]

-- a number below the next of b is below b, or is b
below_or : (a b : ℕ) → a < suc b → (a < b) ⊎ (b ≡ a)
below_or zero zero h = inr refl
below_or zero (suc b) h = inl (omega arith)
below_or (suc a) zero h = absurd (omega arith)
below_or (suc a) (suc b) h = elim (below_or a b (omega arith)) [ inl l ↦ inl (omega arith) | inr e ↦ inr (ap suc e) ]

-- the pairs of a job have each visit number below the count
pub has_pair : (number k seq : ℕ) → seq < k → Contains (pairs_of number k) (number, seq)
has_pair number zero seq lt = absurd (omega arith)
has_pair number (suc k) seq lt =
    elim (below_or seq k lt) [
      | inl l ↦ Contains-append_left (pairs_of number k) ((number, k) ∷ []) (number, seq) (has_pair number k seq l)
      | inr e ↦ subst (λ (s : ℕ). Contains (pairs_of number k ++ (number, k) ∷ []) (number, s)) e (Contains-push (pairs_of number k) (number, k))
    ]

-- two lists without a common pair
pub once_append : (xs ys : List (ℕ × ℕ)) → IsEachOnce xs → IsEachOnce ys → ((p : ℕ × ℕ) → Contains xs p → Contains ys p → ⊥) → IsEachOnce (xs ++ ys)
once_append [] ys a b apart = b
once_append (x ∷ xs) ys a b apart = (
  λ (h : Contains (xs ++ ys) x). elim (Contains-append_cases xs ys x h) [ inl l ↦ a.0 l | inr r ↦ apart x (has_first x xs) r ],
  once_append xs ys a.1 b (λ p l r. apart p (has_rest x xs p l) r),
)

-- the pairs of one job are distinct, as their visit numbers are
pub once_pairs : (number k : ℕ) → IsEachOnce (pairs_of number k)
once_pairs number zero = tt
once_pairs number (suc k) =
    once_append (pairs_of number k) ((number, k) ∷ []) (once_pairs number k) ((λ h. none_in (number, k) h), tt)
    (λ p l r. elim (cases_cons (number, k) [] p r) [ inl e ↦ past p e l | inr h ↦ none_in p h ]) where
      past : (p : ℕ × ℕ) → (number, k) ≡ p → Contains (pairs_of number k) p → ⊥
      past p e l = let r = in_pairs number k number k (subst (λ (q : ℕ × ℕ). Contains (pairs_of number k) q) (sym e) l) in let lt : k < k = r.1 in absurd (omega arith)

-- the numbers of the jobs only rise
pub in_over : (n : ℕ) (ks : List ℕ) (p : ℕ × ℕ) → Contains (pairs_over n ks) p → n ≤ p.0
in_over n [] p h = absurd (none_in p h)
in_over n (k ∷ ks) p h =
    elim (Contains-append_cases (pairs_of n k) (pairs_over (n + 1) ks) p h) [
      | inl l ↦ (let r = in_pairs n k p.0 p.1 l in let e : p.0 ≡ n = r.0 in omega arith)
      | inr r ↦ (let m : n + 1 ≤ p.0 = in_over (n + 1) ks p r in omega arith)
    ]

-- the pairs of several jobs are distinct, as their job numbers are
pub once_over : (n : ℕ) (ks : List ℕ) → IsEachOnce (pairs_over n ks)
once_over n [] = tt
once_over n (k ∷ ks) =
    once_append (pairs_of n k) (pairs_over (n + 1) ks) (once_pairs n k) (once_over (n + 1) ks)
    (λ (p : ℕ × ℕ) l r. let a = in_pairs n k p.0 p.1 l in let e : p.0 ≡ n = a.0 in let m : n + 1 ≤ p.0 = in_over (n + 1) ks p r in absurd (omega arith))

-- one job more
pub over_push : (n : ℕ) (ks : List ℕ) (k m : ℕ) → m ≡ n + length ks → pairs_over n (ks ++ k ∷ []) ≡ pairs_over n ks ++ pairs_of m k
over_push n [] k m e =
    let same : n ≡ m = omega arith in append-nil (pairs_of n k) ∙ ap (λ (j : ℕ). pairs_of j k) same
over_push n (x ∷ ks) k m e =
    ap (λ (l : List (ℕ × ℕ)). pairs_of n x ++ l) (over_push (n + 1) ks k m (omega arith)) ∙ sym (append_assoc (pairs_of n x) (pairs_over (n + 1) ks) (pairs_of m k))
