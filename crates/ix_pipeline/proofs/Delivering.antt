-- A visit that is next is delivered.
use Rattle.std.proofs.Common.{◌≡◌, ℕ, zero, suc, ◌<◌, Bool, List, [], ◌∷◌, ◌++◌, length, take, drop, map, Option, Some, None, sym, ◌∙◌, ap, subst, inl, inr, arith}
use Rattle.std.specs.Prelude.{slice_get}
use Rattle.std.proofs.lemmas.Bool.{cases_lt}
use Rattle.std.proofs.lemmas.List.{map-append}
use Rattle.std.proofs.lemmas.Option.{slice_get_within}
use Rattle.ix_car.specs.declared.sink.Delivery.{Delivery}
use Rattle.ix_car.specs.declared.sink.End.{End}
use Rattle.ix_car.specs.Events.{Event, delivery, IsOpen}
use Rattle.ix_car.proofs.Delivered.{open-push}
use Rattle.ix_pipeline.specs.declared.job_progress.JobProgress.{JobProgress}
use Rattle.ix_pipeline.specs.declared.job_progress.Stage.{Stage}
use Rattle.ix_pipeline.specs.declared.job_progress.Stage.TheVariants.{Delivering, Failed, Stopped}
use Rattle.ix_stages.specs.Received.{Tally}
use Rattle.ix_pipeline.specs.JobProgress.{IsSafe, IsSafeAt, MayDeliver, IsOn, IsUnderWay, IsPoppedUnderWay}

-- one element more: those before a position and the one there
take_at : {X : Type 0} (xs : List X) (k : ℕ) (x : X) → slice_get xs k ≡ Some x → take (suc k) xs ≡ take k xs ++ x ∷ []
take_at [] k x e = cc
take_at (y ∷ ys) zero x e = let h : y ≡ x = cc in ap (λ z. z ∷ []) h
take_at (y ∷ ys) (suc k) x e = ap (λ l. y ∷ l) (take_at ys k x e)

-- the first of those from a position on is the one there
drop_at : {X : Type 0} (xs : List X) (k : ℕ) (x : X) → slice_get xs k ≡ Some x → take 1 (drop k xs) ≡ x ∷ []
drop_at [] k x e = cc
drop_at (y ∷ ys) zero x e = let h : y ≡ x = cc in ap (λ z. z ∷ []) h
drop_at (y ∷ ys) (suc k) x e = drop_at ys k x e

module _ (all : List Delivery) (over : Bool) where
  -- it was delivered
  pub handed_on : (t : Tally) (p : JobProgress) (d : Delivery) (events new : List Event) (failed refused : List Delivery)
      → IsPoppedUnderWay all over t (Some d) p events failed → p.stage ≡ Delivering → new ≡ events ++ delivery d ∷ [] → refused ≡ [] → IsUnderWay all over t p new refused
  handed_on t p d events new failed refused w at told none =
      let held = w.popped in
      record {
        arrived = w.arrived;
        closing = w.closing;
        unchecked = w.unchecked;
        count = suc w.count;
        within = (let lt : w.count < length all = slice_get_within all w.count d held.0 in omega arith);
        told = told ∙ ap (λ (l : List Event). l ++ delivery d ∷ []) w.told ∙ sym (map-append delivery (take w.count all) (d ∷ [])) ∙ sym (ap (λ (l : List Delivery). map delivery l) (take_at all w.count d held.0));
        checked = λ k lt. elim (cases_lt k w.count) [ inl less ↦ w.checked k less | inr more ↦ (let same : w.count ≡ k = omega arith in subst (λ (i : ℕ). 0 < t.checked i) same held.1) ];
        on = subst (λ (x : Stage). IsOn all t (suc w.count) p.out_of_memory p.ring refused x) (sym at) (sym w.next, none, w.waiting);
      }

  -- its write failed
  pub handed_failed : (t : Tally) (p : JobProgress) (d : Delivery) (events new : List Event) (failed refused : List Delivery)
      → IsPoppedUnderWay all over t (Some d) p events failed → new ≡ events → refused ≡ d ∷ [] → IsUnderWay all over t (record p { stage = Failed }) new refused
  handed_failed t p d events new failed refused w told is =
      let held = w.popped in
      record {
        arrived = w.arrived;
        closing = w.closing;
        unchecked = w.unchecked;
        count = w.count;
        within = w.within;
        told = told ∙ w.told;
        checked = w.checked;
        on = (slice_get_within all w.count d held.0, is ∙ sym (drop_at all w.count d held.0));
      }

-- a sink that accepted a delivery accepts the next
pub safe_on : (p : JobProgress) (events new : List Event) (failed refused : List Delivery) (d : Delivery) → p.end ≡ None → IsSafe p events failed → new ≡ events ++ delivery d ∷ [] → refused ≡ [] → IsSafe p new refused
safe_on p events new failed refused d unclosed safe told none =
    let was : IsSafeAt None p.stage events failed = subst (λ (x : Option End). IsSafeAt x p.stage events failed) unclosed safe in
    subst (λ (x : Option End). IsSafeAt x p.stage new refused) (sym unclosed) (subst (λ (l : List Event). IsOpen l) (sym told) (open-push events d was.0), may p.stage none)
  where
    may : (stage : Stage) → refused ≡ [] → MayDeliver stage refused
    may Delivering e = e
    may Failed e = tt
    may Stopped e = tt
