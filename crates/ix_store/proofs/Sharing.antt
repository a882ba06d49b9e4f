-- The share of a thread, as it grows, and where a number's result is in it.
use Rattle.std.proofs.Common.{◌≡◌, ℕ, suc, ◌+◌, ◌-◌, ◌*◌, ◌/◌, ◌%◌, ◌^◌, ◌<◌, ◌≤◌, List, [], ◌∷◌, ◌++◌, length, sym, subst, arith}
use Rattle.std.specs.Prelude.{min, slice_index_or}
use Rattle.std.proofs.Math.Nat.{suc-mul, mod-add-div', lt_of_mul-lt-mul_right}
use Rattle.std.proofs.Math.Seq.{get_or-append_seam}
use Rattle.std.proofs.Math.ListN.{get_or-append}
use borrow.Author.Count.{below_more}

-- what holds of each result, and of one more, holds of each of them all
pub each-more : {X : Type 0} (P : ℕ → X → Type 0) (xs : List X) (x : X) → ((k : ℕ) (d : X) → k < length xs → P k (slice_index_or xs k d)) → P (length xs) x → (k : ℕ) (d : X) → k < length xs + 1 → P k (slice_index_or (xs ++ x ∷ []) k d)
each-more P xs x each last k d =
    below_more (λ i. P i (slice_index_or (xs ++ x ∷ []) i d)) (length xs) (λ i less. subst (P i) (sym (get_or-append xs (x ∷ []) d i less)) (each i d less))
    (subst (P (length xs)) (sym (get_or-append_seam xs x [] d)) last) k

-- the greatest number
abbrev pub greatest : ℕ
greatest = 2 ^ 64 - 1

-- the next number, if it isn't past the greatest
pub here-now : (number from step n : ℕ) → number < greatest → number ≡ min greatest (from + n * step) → number ≡ from + n * step
here-now number from step n less is = omega (arith, less, is)

-- the number after the results so far, which saturates
pub next-number : (number from step n : ℕ) → number < greatest → number ≡ min greatest (from + n * step) → min (number + step) greatest ≡ min greatest (from + (n + 1) * step)
next-number number from step n less is =
    let more : suc n * step ≡ n * step + step = suc-mul n step in
    let here : number ≡ from + n * step = here-now number from step n less is in
    let next : from + (n + 1) * step ≡ number + step = omega (arith, here, more) in
    omega (arith, next)

-- so many results are all of a share, once the next number is past the last
pub whole-share : (count number from step n : ℕ) → count ≤ number → number ≡ min greatest (from + n * step) → (k : ℕ) → from + k * step < count → k < n
whole-share count number from step n past is k less = lt_of_mul-lt-mul_right step (omega (arith, past, is, less))

-- where the result of a number is: in the share of the remainder, at the quotient
pub number-in : (number step : ℕ) → number % step + number / step * step ≡ number
number-in number step = mod-add-div' number step
