-- What counts say: sums below a number, and what fills them.
use Rattle.std.proofs.Common.{◌≡◌, ℕ, zero, suc, ◌+◌, ◌<◌, ◌≤◌, true, false, List, length, refl, sym, ◌∙◌, ap, subst, inl, inr, arith}
use Rattle.std.specs.Prelude.{◌==◌}
use Rattle.std.proofs.lemmas.Bool.{cases_lt}
use Rattle.std.proofs.lemmas.Bool.Decides.{nat_tests}
use Rattle.ix_car.specs.declared.sink.Delivery.{Delivery}
use Rattle.ix_stages.specs.Received.{Tally, seen, point}
use Rattle.ix_pipeline.specs.JobProgress.{below, IsFine}

-- a point is 1 at itself
pub point_here : (k : ℕ) → point k k ≡ 1
point_here k = (let t : (k == k) ≡ true = grind (arith, nat_tests) in rw t refl)

-- and 0 elsewhere
pub point_else : (k n : ℕ) → (n ≡ k → ⊥) → point k n ≡ 0
point_else k n ne = (let t : (k == n) ≡ false = grind (arith, nat_tests) in rw t refl)

-- a sum of ones and zeros is at most the number of them
pub below_few : (f : ℕ → ℕ) (n : ℕ) → ((k : ℕ) → f k ≤ 1) → below f n ≤ n
below_few f zero h = omega arith
below_few f (suc n) h = let few : below f n ≤ n = below_few f n h in let one : f n ≤ 1 = h n in omega arith

-- if it is equal to that, each is 1
pub below_full : (f : ℕ → ℕ) (n k : ℕ) → ((i : ℕ) → f i ≤ 1) → below f n ≡ n → k < n → f k ≡ 1
below_full f zero k h e lt = absurd (omega arith)
below_full f (suc n) k h e lt =
    let few : below f n ≤ n = below_few f n h in
    let one : f n ≤ 1 = h n in
    elim (cases_lt k n) [
      | inl less ↦ below_full f n k h (omega arith) less
      | inr more ↦ (let same : n ≡ k = omega arith in let here : f n ≡ 1 = omega arith in subst (λ (i : ℕ). f i ≡ 1) same here)
    ]

-- zeros past n add nothing
pub below_past : (f : ℕ → ℕ) (n m : ℕ) → n ≤ m → ((k : ℕ) → n ≤ k → f k ≡ 0) → below f m ≡ below f n
below_past f n zero le h = let same : 0 ≡ n = omega arith in ap (below f) same
below_past f n (suc m) le h =
    elim (cases_lt m n) [
      | inl less ↦ (let same : suc m ≡ n = omega arith in ap (below f) same)
      | inr more ↦ (let rest : below f m ≡ below f n = below_past f n m more h in let none : f m ≡ 0 = h m more in omega arith)
    ]

module _ (all : List Delivery) (t : Tally) (fine : IsFine all t) where
  -- no number above that of the close occurs
  past : (k : ℕ) → 0 < t.closes k → t.count ≡ below (seen t) (suc k)
  past k closed =
      let here : k ≤ length all = elim (cases_lt (length all) k) [ inl less ↦ (let none : seen t k ≡ 0 = fine.within k less in absurd (omega arith)) | inr more ↦ more ] in
      fine.counted ∙ below_past (seen t) (suc k) (suc (length all)) (omega arith) (λ n le. fine.last k n closed (omega arith))

  -- with the close and its number of items all have come
  pub full : (k n : ℕ) → 0 < t.closes k → t.count ≡ suc k → n < k → t.checked n + t.unchecked n ≡ 1
  full k n closed count lt =
      let one : seen t n ≡ 1 = below_full (seen t) (suc k) n fine.once (sym (past k closed) ∙ count) (omega arith) in
      let none : t.closes n ≡ 0 =
      elim (cases_lt 0 (t.closes n)) [
        | inl some ↦ (let nothing : seen t k ≡ 0 = fine.last n k some lt in absurd (omega arith))
        | inr none ↦ omega arith
      ]
      in
      omega arith

  -- no more than all come
  pub no_more : (k : ℕ) → 0 < t.closes k → t.count ≤ suc k
  no_more k closed = let few : below (seen t) (suc k) ≤ suc k = below_few (seen t) (suc k) fine.once in let e : t.count ≡ below (seen t) (suc k) = past k closed in omega arith

  -- a job has at most 4,294,967,295 visits and one close
  pub few_items : t.count ≤ 4294967296
  few_items =
      let few : below (seen t) (suc (length all)) ≤ suc (length all) = below_few (seen t) (suc (length all)) fine.once in
      let e : t.count ≡ below (seen t) (suc (length all)) = fine.counted in
      let s : length all ≤ 4294967295 = fine.small in
      omega arith
