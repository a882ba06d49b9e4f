-- The fact of each sink is kept, and what is in a list.
use Rattle.std.proofs.Common.{◌≡◌, ℕ, zero, suc, List, [], ◌∷◌, get_or, set, sym, subst}
use Rattle.ix_car.specs.Headline.{Fact, Keeps, EachKept}

module _ {S About : Type 0} (guarantee : Fact S About) where
  -- no call keeps each fact
  pub kept_same : (ss : List S) → EachKept guarantee ss ss
  kept_same [] = tt
  kept_same (s ∷ ss) = ((λ about store job first p. p), kept_same ss)

  -- one sink keeps its fact, and the others are the same
  pub kept_set : (ss : List S) (i : ℕ) (s t : S) → s ≡ get_or ss i s → Keeps guarantee s t → EachKept guarantee ss (set ss i t)
  kept_set [] i s t at keeps = tt
  kept_set (x ∷ ss) zero s t at keeps = ((λ about store job first p. keeps about store job first (subst (λ (z : S). guarantee z about store job first) (sym at) p)), kept_same ss)
  kept_set (x ∷ ss) (suc i) s t at keeps = ((λ about store job first p. p), kept_set ss i s t at keeps)

  -- facts are kept over two steps
  pub kept_trans : (xs ys zs : List S) → EachKept guarantee xs ys → EachKept guarantee ys zs → EachKept guarantee xs zs
  kept_trans [] [] [] h k = tt
  kept_trans [] [] (z ∷ zs) h k = absurd k
  kept_trans [] (y ∷ ys) zs h k = absurd h
  kept_trans (x ∷ xs) [] zs h k = absurd h
  kept_trans (x ∷ xs) (y ∷ ys) [] h k = absurd k
  kept_trans (x ∷ xs) (y ∷ ys) (z ∷ zs) h k = ((λ about store job first p. k.0 about store job first (h.0 about store job first p)), kept_trans xs ys zs h.1 k.1)
