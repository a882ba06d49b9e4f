-- The parts of a list, put end to end.
use Rattle.std.proofs.Common.{◌≡◌, ◌∙◌, sym, ap, subst, ℕ, zero, suc, ◌+◌, ◌-◌, ◌*◌, ◌/◌, ◌<◌, ◌≤◌, List, [], ◌++◌, length, drop, append_assoc, arith}
use Rattle.std.specs.Prelude.{slice_range, flat_map}
use Rattle.std.specs.List.{range_with_len}
use Rattle.std.proofs.Math.Nat.{div-mul-le_self, div-le_of_le-mul, mul-div_cancel_left, mul-le-mul_right}
use Rattle.std.proofs.lemmas.Nat.{le-div}
use Rattle.std.proofs.lemmas.List.{append-nil, drop_all}
use Rattle.std.proofs.lemmas.List.Folds.{drop_split}
use Rattle.ix_jobs.specs.Parts.{cut, part_of, all_parts}

-- a part begins where the one before it ends
pub cut-rises : (j k n len : ℕ) → 0 < n → j ≤ k → cut j n len ≤ cut k n len
cut-rises j k n len some le =
    let low : j * len / n * n ≤ j * len = div-mul-le_self (j * len) n in
    let high : j * len ≤ k * len = mul-le-mul_right len le in
    le-div (j * len / n) (k * len) n some (omega (arith, low, high))

-- the first part begins at 0
cut-none : (n len : ℕ) → cut 0 n len ≡ 0
cut-none n len =
    let below : cut 0 n len ≤ 0 = div-le_of_le-mul n (omega arith) in
    omega (arith, below)

-- the last part ends at the end of the list
cut-all : (n len : ℕ) → 0 < n → cut n n len ≡ len
cut-all n len some = mul-div_cancel_left len some

-- no part ends past the end of the list
pub cut-within : (k n len : ℕ) → 0 < n → k ≤ n → cut k n len ≤ len
cut-within k n len some le = subst (λ m. cut k n len ≤ m) (cut-all n len some) (cut-rises k n n len some le)

module _ {A : Type 0} (n : ℕ) (some : 0 < n) (xs : List A) where
  abbrev at : ℕ → ℕ
  at k = cut k n (length xs)

  -- a part is the range between two cuts
  part-at : (a : ℕ) → part_of (a + 1) n xs ≡ slice_range xs (at a) (at (a + 1))
  part-at a = let before : a + 1 - 1 ≡ a = omega arith in ap (λ k. slice_range xs (at k) (at (a + 1))) before

  -- by induction over the parts: the parts from one on are the rest of the list
  from : (m a : ℕ) → flat_map (λ k. part_of k n xs) (range_with_len (a + 1) m) ++ drop (at (a + m)) xs ≡ drop (at a) xs
  from zero a = let same : a + 0 ≡ a = omega arith in ap (λ k. drop (at k) xs) same
  from (suc m) a =
      let rest : List A = flat_map (λ k. part_of k n xs) (range_with_len (a + 1 + 1) m) in
      let last : a + suc m ≡ a + 1 + m = omega arith in
      append_assoc (part_of (a + 1) n xs) rest (drop (at (a + suc m)) xs)
      ∙ ap (λ k. part_of (a + 1) n xs ++ (rest ++ drop (at k) xs)) last
      ∙ ap (λ l. part_of (a + 1) n xs ++ l) (from m (a + 1))
      ∙ ap (λ l. l ++ drop (at (a + 1)) xs) (part-at a)
      ∙ sym (drop_split xs (at a) (at (a + 1)) (cut-rises a (a + 1) n (length xs) some (omega arith)))

  -- all parts, concatenated, are the list
  pub parts-whole : all_parts n xs ≡ xs
  parts-whole =
      let ends : at n ≡ length xs = cut-all n (length xs) some in
      let last : drop (at (0 + n)) xs ≡ [] = drop_all (at (0 + n)) xs (omega (arith, ends, ap at (let z : 0 + n ≡ n = omega arith in z))) in
      sym (append-nil (all_parts n xs)) ∙ sym (ap (λ l. all_parts n xs ++ l) last) ∙ from n 0 ∙ ap (λ k. drop k xs) (cut-none n (length xs))
