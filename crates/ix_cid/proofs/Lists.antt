-- Lists that are read in turn.
use Rattle.std.proofs.Common.{◌≡◌, ℕ, zero, suc, ◌+◌, ◌<◌, ◌≤◌, List, [], ◌∷◌, Some, length, get_or, slice_get, drop, ◌∙◌, sym, ap, arith}
use Rattle.std.proofs.lemmas.List.{drop_more}

module _ {X : Type 0} where
  -- what is left from a place on is what is there, and what is left after it
  pub drop_read : (xs : List X) (i : ℕ) (x : X) → i < length xs → x ≡ get_or xs i x → drop i xs ≡ x ∷ drop (i + 1) xs
  drop_read xs i x less is = drop_more xs i x less ∙ ap (λ (y : X). y ∷ drop (i + 1) xs) (sym is)

  -- what is next in what is left of a list
  pub next_at : (xs rest : List X) (n : ℕ) (x : X) → drop n xs ≡ x ∷ rest → (slice_get xs n ≡ Some x) × (drop (n + 1) xs ≡ rest) × (n < length xs)
  next_at [] rest zero x e = cc
  next_at [] rest (suc n) x e = cc
  next_at (y ∷ xs) rest zero x e = (let same : y ≡ x = cc in ap (λ (z : X). Some z) same, (let t : xs ≡ rest = cc in t), omega arith)
  next_at (y ∷ xs) rest (suc n) x e = let h = next_at xs rest n x e in let one : suc n + 1 ≡ suc (n + 1) = omega arith in (h.0, ap (λ (k : ℕ). drop k (y ∷ xs)) one ∙ h.1, (let lt = h.2 in omega (arith, lt)))

  -- nothing is left of a list
  pub all_past : (xs : List X) (n : ℕ) → drop n xs ≡ [] → n ≤ length xs → n ≡ length xs
  all_past [] n e le = omega (arith, le)
  all_past (y ∷ xs) zero e le = cc
  all_past (y ∷ xs) (suc n) e le = let h = all_past xs n e (omega (arith, le)) in omega (arith, h)
