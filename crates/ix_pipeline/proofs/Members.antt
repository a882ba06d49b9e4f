-- What is in a list.
use Rattle.std.proofs.Common.{◌≡◌, ◌⊎◌, ℕ, zero, suc, ◌<◌, List, [], ◌∷◌, length, slice_index_or, slice_get, Some, Contains, refl, inl, inr, arith}
use Rattle.std.proofs.lemmas.List.Elements.{Contains-append_right}
use Rattle.std.proofs.lemmas.Option.{slice_get_within, get_or_from_slice_get}

module _ {X : Type 0} where
  -- an element of a list is its first, or one of the rest
  cons_at : (y : X) (ys : List X) (x : X) (i : ℕ) → i < length (y ∷ ys) → slice_index_or (y ∷ ys) i x ≡ x → (y ≡ x) ⊎ Contains ys x
  cons_at y ys x zero lt e = inl e
  cons_at y ys x (suc i) lt e = inr (i, omega arith, e)

  -- so what is in a list is its first element or in the rest
  pub cases_cons : (y : X) (ys : List X) (x : X) → Contains (y ∷ ys) x → (y ≡ x) ⊎ Contains ys x
  cases_cons y ys x h = cons_at y ys x h.0 h.1 h.2

  -- nothing is in the empty list
  pub none_in : (x : X) → Contains [] x → ⊥
  none_in x h = absurd (less h.0 h.1) where
    less : (k : ℕ) → k < length (let none : List X = [] in none) → ⊥
    less k lt = absurd (omega arith)

  -- the first element is in the list
  pub has_first : (y : X) (ys : List X) → Contains (y ∷ ys) y
  has_first y ys = (0, omega arith, refl)

  -- what is in the rest is in the list
  pub has_rest : (y : X) (ys : List X) (x : X) → Contains ys x → Contains (y ∷ ys) x
  has_rest y ys x h = Contains-append_right (y ∷ []) ys x h

  -- the element at a position is in the list
  pub has_got : (xs : List X) (i : ℕ) (x : X) → slice_get xs i ≡ Some x → Contains xs x
  has_got xs i x e = (i, slice_get_within xs i x e, get_or_from_slice_get xs i x x e)
