-- The last segment of a path.
use Rattle.std.proofs.Common.{◌≡◌, ℕ, suc, ◌-◌, false, List, [], ◌∷◌, length, refl, ◌∙◌, ap, arith}
use Rattle.std.specs.Prelude.{Some, slice_get, vec_len, ◌==◌}
use Rattle.std.specs.Global.{Vec}
use Rattle.std.proofs.lemmas.Bool.Decides.{nat_tests}
use Rattle.std.proofs.lemmas.Option.{same_Some}
use Rattle.ix_path.specs.Resolution.{segments_in}
use Rattle.ix_trace.specs.Text.{ends_empty}

-- one segment
not_zero : (n : ℕ) → (suc n == 0) ≡ false
not_zero n = grind (arith, nat_tests)

one_segment : (s : List ℕ) → (length s == 0) ≡ ends_empty (s ∷ [])
one_segment [] = refl
one_segment (x ∷ s) = not_zero (length s)

-- the last of several
pub last_empty : (xs : List (Vec ℕ)) (v : Vec ℕ) → Some v ≡ slice_get xs (length xs - 1) → (vec_len v == 0) ≡ ends_empty (segments_in xs)
last_empty [] v e = absurd cc
last_empty (x ∷ []) v e =
    let same : v ≡ x = same_Some v x e in ap (λ n. n == 0) v.ok.0 ∙ ap (λ (w : Vec ℕ). length w.items == 0) same ∙ one_segment x.items
last_empty (x ∷ y ∷ more) v e =
    let far : suc (suc (length more)) - 1 ≡ suc (length more) = omega arith in
    let near : length more ≡ suc (length more) - 1 = omega arith in
    last_empty (y ∷ more) v (e ∙ ap (slice_get (x ∷ y ∷ more)) far ∙ ap (slice_get (y ∷ more)) near)
