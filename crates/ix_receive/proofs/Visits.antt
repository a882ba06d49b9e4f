-- The first visits with link-visit-once.
use Rattle.std.proofs.Common.{◌≡◌, ℕ, zero, suc, ◌≤◌, Bool, List, [], ◌∷◌, ◌++◌, take, refl, ap, ◌∙◌, arith}
use Rattle.std.specs.Prelude.{Option, None, if◌then◌else◌}
use Rattle.std.specs.List.{AllByRecursion}
use Rattle.ix_cbor.specs.Data.{Data}
use Rattle.ix_selector.specs.Enters.{Path}
use Rattle.ix_walk.specs.Arrivals.{Arrival, Inside, when_some}
use Rattle.ix_walk.specs.Once.{links_below, was_expanded, expanded_at, expanded_after, once}
use Rattle.ix_car.proofs.Visited.{IsSameInside}

module _ {R : Type 0} (enters : Path → Bool) (rest : Path → R) (same : R → R → Bool) where
  -- one visit more depends only on what is expanded at those before it
  pub next-same : (inside other : Inside) (n : ℕ) (expanded : List (List ℕ × R)) (waiting : List Arrival) → AllByRecursion (IsSameInside enters inside other) (once enters rest same inside n expanded waiting)
      → once enters rest same other (suc n) expanded waiting ≡ once enters rest same inside (suc n) expanded waiting
  next-same inside other zero expanded [] h = refl
  next-same inside other zero expanded (a ∷ more) h = refl
  next-same inside other (suc n) expanded [] h = refl
  next-same inside other (suc n) expanded (a ∷ more) h =
      let at : Option Data → Option Data = λ o. if was_expanded enters rest same inside expanded a then None else o in
      let after : Option Data → List (List ℕ × R) = λ o. expanded_after enters rest same inside (at o) a expanded in
      let left : Option Data → List Arrival = λ o. when_some (at o) (λ d. links_below enters d a) ++ more in
      ap (λ o. a ∷ once enters rest same other (suc n) (after o) (left o)) h.0
      ∙ ap (λ l. a ∷ l) (next-same inside other n (after (inside a.cid)) (left (inside a.cid)) h.1)

  -- fewer visits are the first of more
  pub fewer-visits : (inside : Inside) (n m : ℕ) → n ≤ m → (expanded : List (List ℕ × R)) (waiting : List Arrival) → once enters rest same inside n expanded waiting ≡ take n (once enters rest same inside m expanded waiting)
  fewer-visits inside zero m h expanded waiting = refl
  fewer-visits inside (suc n) zero h expanded waiting = absurd (omega (arith, h))
  fewer-visits inside (suc n) (suc m) h expanded [] = refl
  fewer-visits inside (suc n) (suc m) h expanded (a ∷ more) =
      let o : Option Data = expanded_at enters rest same inside expanded a in
      ap (λ l. a ∷ l) (fewer-visits inside n m (omega (arith, h)) (expanded_after enters rest same inside o a expanded) (when_some o (λ d. links_below enters d a) ++ more))
