-- With link-visit-once nothing is cut by depth: nothing is below what isn't good.
use Rattle.std.proofs.Common.{◌≡◌, ℕ, zero, suc, ◌+◌, ◌≤◌, Bool, true, false, List, [], ◌∷◌, ◌++◌, take, map, refl, sym, ap, ◌∙◌, subst, arith}
use Rattle.std.specs.Prelude.{Option, Some, None, if◌then◌else◌}
use Rattle.std.specs.List.{AllByRecursion}
use Rattle.std.proofs.lemmas.Bool.{le-ltb}
use Rattle.ix_cbor.specs.Data.{Data}
use Rattle.ix_selector.specs.Enters.{Path}
use Rattle.ix_selector.specs.IsEntered.{is_entered}
use Rattle.ix_walk.specs.Arrivals.{Arrival, Inside, when_some}
use Rattle.ix_walk.specs.JobMeaning.{JobMeaning}
use Rattle.ix_store.specs.Store.{Blocks, value_of}
use Rattle.ix_walk.specs.Visits.{visit_of, visits_from}
use Rattle.ix_walk.specs.Once.{roots_from, links_below, was_expanded, expanded_after, once, sound_value, once_arrivals}
use Rattle.ix_walk.proofs.Links.{all-append, all-weaker, links-depth, roots-depth}
use Rattle.ix_check.specs.Verdict.{passes}
use Rattle.ix_car.specs.declared.sink.Delivery.{Delivery}
use Rattle.ix_car.specs.Kept.{is_below, kept_after, kept}
use Rattle.ix_car.specs.Verified.{is_good, judged}
use Rattle.ix_car.proofs.SoundValues.{passing-sound}

-- none is deeper than one before it
abbrev AreFalling : List Arrival → Type 0
AreFalling [] = Unit {0}
AreFalling (a ∷ more) = AllByRecursion (λ b. b.depth ≤ a.depth) more × AreFalling more

-- visits of one depth before others that aren't deeper
falling-same : (k : ℕ) (xs more : List Arrival) → AllByRecursion (λ b. b.depth ≡ k) xs → AllByRecursion (λ b. b.depth ≤ k) more → AreFalling more → AreFalling (xs ++ more)
falling-same k [] more same low falling = falling
falling-same k (x ∷ xs) more same low falling =
    let here = same.0 in (
      all-weaker (λ b. b.depth ≤ k) (λ b. b.depth ≤ x.depth) (λ b h. omega (arith, here, h)) (xs ++ more)
          (all-append (λ b. b.depth ≤ k) xs more (all-weaker (λ b. b.depth ≡ k) (λ b. b.depth ≤ k) (λ b h. omega (arith, h)) xs same.1) low),
      falling-same k xs more same.1 low falling,
    )

module _ (pass : List ℕ → Bool) where
  -- none is cut off, after one at which the list may be cut
  abbrev NoneCut : Option ℕ → List Arrival → Type 0
  NoneCut cut [] = Unit {0}
  NoneCut cut (x ∷ xs) = (is_below cut x.depth ≡ false) × NoneCut (if pass x.cid then None else Some x.depth) xs

  -- if nothing is cut of a list, nothing is of its front
  none_cut-take : (m : ℕ) (cut : Option ℕ) (xs : List Arrival) → NoneCut cut xs → NoneCut cut (take m xs)
  none_cut-take zero cut xs h = tt
  none_cut-take (suc m) cut [] h = tt
  none_cut-take (suc m) cut (x ∷ xs) h = (h.0, none_cut-take m (if pass x.cid then None else Some x.depth) xs h.1)

  -- none of these is deeper than the cut
  abbrev IsAbove : Option ℕ → List Arrival → Type 0
  IsAbove None waiting = Unit {0}
  IsAbove (Some d) waiting = AllByRecursion (λ b. b.depth ≤ d) waiting

  -- a visit at or above the cut isn't cut off
  above_cut : (cut : Option ℕ) (a : Arrival) (more : List Arrival) → IsAbove cut (a ∷ more) → is_below cut a.depth ≡ false
  above_cut None a more h = refl
  above_cut (Some d) a more h = le-ltb d a.depth h.0

  module _ {R : Type 0} (enters : Path → Bool) (rest : Path → R) (same : R → R → Bool) (inside : Inside) (stays : (c : List ℕ) → pass c ≡ false → inside c ≡ None) where
    abbrev links_of : Option Data → Arrival → List Arrival
    links_of o a = when_some o (λ d. links_below enters d a)

    falling_after : (o : Option Data) (a : Arrival) (more : List Arrival) → AreFalling (a ∷ more) → AreFalling (links_of o a ++ more)
    falling_after o a more h =
        falling-same (a.depth + 1) (links_of o a) more (links-depth enters inside a o) (all-weaker (λ b. b.depth ≤ a.depth) (λ b. b.depth ≤ a.depth + 1) (λ b g. omega (arith, g)) more h.0) h.1

    -- nothing is below what isn't good
    above_after : (good : Bool) (o : Option Data) (a : Arrival) (more : List Arrival) → (good ≡ false → o ≡ None) → AreFalling (a ∷ more) → IsAbove (if good then None else Some a.depth) (links_of o a ++ more)
    above_after true o a more none h = tt
    above_after false o a more none h =
        subst (λ p. AllByRecursion (λ b. b.depth ≤ a.depth) (links_of p a ++ more)) (sym (none refl)) h.0

    nothing_inside : (was : Bool) (o : Option Data) → o ≡ None → (if was then None else o) ≡ None
    nothing_inside true o h = refl
    nothing_inside false o h = h

    once-none_cut : (n : ℕ) (expanded : List (List ℕ × R)) (waiting : List Arrival) (cut : Option ℕ) → AreFalling waiting → IsAbove cut waiting → NoneCut cut (once enters rest same inside n expanded waiting)
    once-none_cut zero expanded waiting cut falling above = tt
    once-none_cut (suc n) expanded [] cut falling above = tt
    once-none_cut (suc n) expanded (a ∷ more) cut falling above =
        let o : Option Data = if was_expanded enters rest same inside expanded a then None else inside a.cid in (
          above_cut cut a more above,
          once-none_cut n (expanded_after enters rest same inside o a expanded) (links_of o a ++ more) (if pass a.cid then None else Some a.depth) (falling_after o a more falling)
              (above_after (pass a.cid) o a more (λ bad. nothing_inside (was_expanded enters rest same inside expanded a) (inside a.cid) (stays a.cid bad)) falling),
        )

-- nothing is cut of their deliveries
kept-uncut : (store : Blocks) (number n : ℕ) (cut : Option ℕ) (xs : List Arrival) → NoneCut (is_good store) cut xs
    → kept_after (λ d. d.visit.depth) (λ d. passes d.verdict) cut (map (judged store) (visits_from store number n xs)) ≡ map (judged store) (visits_from store number n xs)
kept-uncut store number n cut [] h = refl
kept-uncut store number n cut (x ∷ xs) h =
    let d : Delivery = judged store (visit_of store number n x) in
    let behind : Option ℕ → List Delivery = λ c. kept_after (λ e. e.visit.depth) (λ e. passes e.verdict) c (map (judged store) (visits_from store number (n + 1) xs)) in
    let next : Option ℕ = if is_good store x.cid then None else Some x.depth in
    ap (λ b. if b then behind cut else d ∷ behind next) h.0 ∙ ap (λ l. d ∷ l) (kept-uncut store number (n + 1) next xs h.1)

-- the first deliveries are those of the first visits
pub visits-take : (store : Blocks) (number n m : ℕ) (xs : List Arrival) → take m (map (judged store) (visits_from store number n xs)) ≡ map (judged store) (visits_from store number n (take m xs))
visits-take store number n zero xs = refl
visits-take store number n (suc m) [] = refl
visits-take store number n (suc m) (x ∷ xs) = ap (λ l. judged store (visit_of store number n x) ∷ l) (visits-take store number (n + 1) m xs)

-- roots aren't below one another
roots-falling : (root : ℕ) (cs : List (List ℕ)) → AreFalling (roots_from root cs)
roots-falling root [] = tt
roots-falling root (c ∷ cs) = (all-weaker (λ b. b.depth ≡ 0) (λ b. b.depth ≤ 0) (λ b h. omega (arith, h)) (roots_from (root + 1) cs) (roots-depth (root + 1) cs), roots-falling (root + 1) cs)

-- the visits of its first arrivals, as many as its limit, each with its verdict
abbrev pub judged_once : {R : Type 0} → Blocks → ℕ → JobMeaning → (Path → R) → (R → R → Bool) → List Delivery
judged_once store number job rest same = map (judged store) (visits_from store number 0 (take job.limit (once_arrivals store job rest same)))

module _ {R : Type 0} (rest : Path → R) (same : R → R → Bool) (store : Blocks) (number : ℕ) (job : JobMeaning) where
  -- a CID that isn't good isn't expanded
  stays_out : (c : List ℕ) → is_good store c ≡ false → sound_value store c ≡ None
  stays_out c bad = sym (passing-sound store c) ∙ ap (λ b. if b then value_of store c else None) bad

  -- so nothing is below it, and nothing is cut
  once-uncut : NoneCut (is_good store) None (once_arrivals store job rest same)
  once-uncut = once-none_cut (is_good store) (is_entered job.selector) rest same (sound_value store) stays_out (suc job.limit) [] (roots_from 0 job.roots) None (roots-falling 0 job.roots) tt

  -- all deliveries are kept
  pub once-all_kept : kept (map (judged store) (visits_from store number 0 (once_arrivals store job rest same))) ≡ map (judged store) (visits_from store number 0 (once_arrivals store job rest same))
  once-all_kept = kept-uncut store number 0 None (once_arrivals store job rest same) once-uncut

  -- and so are the first ones
  pub once-kept : (m : ℕ) → kept (take m (judged_once store number job rest same)) ≡ take m (judged_once store number job rest same)
  once-kept m =
      let first : take m (judged_once store number job rest same) ≡ map (judged store) (visits_from store number 0 (take m (take job.limit (once_arrivals store job rest same)))) = visits-take store number 0 m (take job.limit (once_arrivals store job rest same)) in
      ap kept first
      ∙ kept-uncut store number 0 None (take m (take job.limit (once_arrivals store job rest same)))
      (none_cut-take (is_good store) m None (take job.limit (once_arrivals store job rest same)) (none_cut-take (is_good store) job.limit None (once_arrivals store job rest same) once-uncut))
      ∙ sym first
