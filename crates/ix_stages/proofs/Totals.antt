-- Sums over the views, and one view among the others.
use Rattle.std.proofs.Common.{◌≡◌, ◌≢◌, ℕ, zero, suc, ◌+◌, ◌<◌, ◌≤◌, ◌⊎◌, List, [], ◌∷◌, ◌++◌, length, set, sym, refl, ap, subst, inl, inr, ⊎_elim, arith}
use mathlib.Core.Option.{some, some-injective, some-ne-none}
use lib.ListN.{get_elem?}
use Rattle.atomic_table.proofs.Lists.{at_set}
use Rattle.ix_stages.specs.Totals.{total}

module _ {V : Type 0} where
  -- replacing one view changes the sum by the difference
  pub total_set : (f : V → ℕ) (views : List V) (port : ℕ) (v w : V) → get_elem? views port ≡ some v → total f (set views port w) + f v ≡ total f views + f w
  total_set f [] port v w e = absurd (some-ne-none v (sym e))
  total_set f (x ∷ xs) zero v w e = let p : f x ≡ f v = ap f (some-injective x v e) in omega arith
  total_set f (x ∷ xs) (suc i) v w e = let ih = total_set f xs i v w e in omega arith

  -- one view more adds its part
  pub total_snoc : (f : V → ℕ) (views : List V) (w : V) → total f (views ++ w ∷ []) ≡ total f views + f w
  total_snoc f [] w = omega arith
  total_snoc f (x ∷ xs) w = let ih = total_snoc f xs w in omega arith

  -- sums add up over a concatenation
  pub total_append : (f : V → ℕ) (xs ys : List V) → total f (xs ++ ys) ≡ total f xs + total f ys
  total_append f [] ys = omega arith
  total_append f (x ∷ xs) ys = let ih = total_append f xs ys in omega arith

  -- one part is at most the sum
  pub part_le : (f : V → ℕ) (views : List V) (port : ℕ) (v : V) → get_elem? views port ≡ some v → f v ≤ total f views
  part_le f [] port v e = absurd (some-ne-none v (sym e))
  part_le f (x ∷ xs) zero v e = let p : f x ≡ f v = ap f (some-injective x v e) in omega arith
  part_le f (x ∷ xs) (suc i) v e = let ih = part_le f xs i v e in omega arith

  -- a position that has an element is below the length
  pub at_below : (views : List V) (port : ℕ) (v : V) → get_elem? views port ≡ some v → port < length views
  at_below [] port v e = absurd (some-ne-none v (sym e))
  at_below (x ∷ xs) zero v e = omega arith
  at_below (x ∷ xs) (suc i) v e = let ih = at_below xs i v e in omega arith

  -- F holds of each view and its position
  abbrev pub Each : (ℕ → V → Type 0) → List V → Type 0
  Each F views = (port : ℕ) (v : V) → get_elem? views port ≡ some v → F port v

  -- sums are ordered as their parts are
  pub total_le : (f g : V → ℕ) (views : List V) → Each (λ p u. f u ≤ g u) views → total f views ≤ total g views
  total_le f g [] le = omega arith
  total_le f g (x ∷ xs) le = let a = le 0 x refl in let ih = total_le f g xs (λ p u e. le (suc p) u e) in omega arith

  -- if g sums to 0, and f is 0 where g is, f sums to 0
  pub none_left : (f g : V → ℕ) (views : List V) → total g views ≡ 0 → Each (λ p u. g u ≡ 0 → f u ≡ 0) views → total f views ≡ 0
  none_left f g [] none idle = refl
  none_left f g (x ∷ xs) none idle =
      let here : g x ≡ 0 = omega arith in
      let mine : f x ≡ 0 = idle 0 x refl here in
      let ih = none_left f g xs (omega arith) (λ p u e. idle (suc p) u e) in
      omega arith

  -- if one view has all of g, it has all of f
  pub total_of-one : (f g : V → ℕ) (views : List V) (port : ℕ) (v : V) → get_elem? views port ≡ some v → total g views ≡ g v → Each (λ p u. g u ≡ 0 → f u ≡ 0) views → total f views ≡ f v
  total_of-one f g [] port v e all idle = absurd (some-ne-none v (sym e))
  total_of-one f g (x ∷ xs) zero v e all idle =
      let p : g x ≡ g v = ap g (some-injective x v e) in
      let q : f x ≡ f v = ap f (some-injective x v e) in
      let rest = none_left f g xs (omega arith) (λ p u e. idle (suc p) u e) in
      omega arith
  total_of-one f g (x ∷ xs) (suc i) v e all idle =
      let le = part_le g xs i v e in
      let here : g x ≡ 0 = omega arith in
      let mine : f x ≡ 0 = idle 0 x refl here in
      let ih = total_of-one f g xs i v e (omega arith) (λ p u e. idle (suc p) u e) in
      omega arith

  -- F holds of each view after one is replaced, if it holds of the new one and of all others
  pub each_set : (F : ℕ → V → Type 0) (views : List V) (port : ℕ) (w : V) → F port w → ((j : ℕ) (u : V) → j ≢ port → get_elem? views j ≡ some u → F j u) → Each F (set views port w)
  each_set F views port w mine others j u e = ⊎_elim (λ (x : (j ≡ port) × (w ≡ u)). subst (λ (y : ℕ × V). F y.0 y.1) (λ i. (sym x.0 i, x.1 i)) mine)
      (λ (x : (j ≢ port) × (get_elem? views j ≡ some u)). others j u x.0 x.1) (at_set views port j w u e)

  -- an element of a list with one more is an element of the list, or that one
  pub at_end : (l : List V) (a b : V) (j : ℕ) → get_elem? (l ++ a ∷ []) j ≡ some b → (get_elem? l j ≡ some b) ⊎ ((j ≡ length l) × (a ≡ b))
  at_end [] a b zero e = inr (refl, some-injective a b e)
  at_end [] a b (suc j) e = absurd (some-ne-none b (sym e))
  at_end (x ∷ xs) a b zero e = inl e
  at_end (x ∷ xs) a b (suc j) e = ⊎_elim (λ (t : get_elem? xs j ≡ some b). inl t) (λ (t : (j ≡ length xs) × (a ≡ b)). inr (ap suc t.0, t.1)) (at_end xs a b j e)

  -- F holds of one view more
  pub each_snoc : (F : ℕ → V → Type 0) (views : List V) (w : V) → Each F views → F (length views) w → Each F (views ++ w ∷ [])
  each_snoc F views w old mine j u e = ⊎_elim (λ (x : get_elem? views j ≡ some u). old j u x)
      (λ (x : (j ≡ length views) × (w ≡ u)). subst (λ (y : ℕ × V). F y.0 y.1) (λ i. (sym x.0 i, x.1 i)) mine) (at_end views w u j e)

  -- the views besides the one that was replaced stay
  pub at_other : (views : List V) (port j : ℕ) (w u : V) → ¬ (j ≡ port) → get_elem? (set views port w) j ≡ some u → get_elem? views j ≡ some u
  at_other views port j w u apart e = ⊎_elim (λ (x : (j ≡ port) × (w ≡ u)). absurd (apart x.0)) (λ (x : (j ≢ port) × (get_elem? views j ≡ some u)). x.1) (at_set views port j w u e)
