-- The close of a job's walk comes.
use Rattle.std.proofs.Common.{◌≡◌, ℕ, ◌+◌, ◌<◌, ◌≤◌, Bool, true, false, List, Option, Some, None, subst, inl, inr, arith}
use Rattle.std.specs.Prelude.{is_some}
use Rattle.std.proofs.lemmas.Bool.{cases_lt, cases_Bool}
use Rattle.ix_car.specs.declared.sink.Delivery.{Delivery}
use Rattle.ix_car.specs.declared.sink.End.{End}
use Rattle.ix_car.specs.declared.sink.End.TheVariants.{Memory}
use Rattle.ix_car.specs.Events.{Event}
use Rattle.ix_pipeline.specs.declared.job_progress.JobProgress.{JobProgress}
use Rattle.ix_pipeline.specs.declared.job_progress.Stage.{Stage}
use Rattle.ix_pipeline.specs.declared.job_progress.Stage.TheVariants.{Delivering, Failed, Stopped}
use Rattle.ix_pipeline.specs.declared.job_progress.WalkEnd.{WalkEnd}
use Rattle.ix_pipeline.specs.Numbered.{Numbered}
use Rattle.ix_stages.specs.Received.{Tally, seen, point}
use Rattle.ix_pipeline.specs.JobProgress.{IsFine, Adds, none_of, IsCloseArrival, IsWaiting, IsOn, IsCloseKnown, IsUnderWay}
use Rattle.ix_pipeline.proofs.Counting.{point_here, few_items}
use Rattle.ix_pipeline.proofs.Arrivals.{Stays, held_adds, checked_adds}

module _ (all : List Delivery) (over : Bool) where
  -- a close changes nothing in the ring
  waiting_close : (t u : Tally) (z : ℕ → ℕ) (out_of_memory more : Bool) (ring : Numbered (Option Delivery)) → Adds t u none_of none_of z → Stays out_of_memory more → IsWaiting all t out_of_memory ring → IsWaiting all u more ring
  waiting_close t u z out_of_memory more ring a s w = record {
    held = λ k o e. held_adds all over t u none_of none_of z out_of_memory more k o a s (w.held k o e);
    missing = λ k low none.
        let e : u.checked k ≡ 0 + t.checked k = a.checked_is k in
        let f : u.unchecked k ≡ 0 + t.unchecked k = a.unchecked_is k in
        let was : t.checked k + t.unchecked k ≡ 0 = w.missing k low none in
        omega arith;
  }

  -- a close changes nothing of why so many visits were delivered
  on_close : (t u : Tally) (z : ℕ → ℕ) (count : ℕ) (out_of_memory more : Bool) (ring : Numbered (Option Delivery)) (failed : List Delivery) (stage : Stage)
      → Adds t u none_of none_of z → Stays out_of_memory more → IsOn all t count out_of_memory ring failed stage → IsOn all u count more ring failed stage
  on_close t u z count out_of_memory more ring failed Delivering a s on = (on.0, on.1, waiting_close t u z out_of_memory more ring a s on.2)
  on_close t u z count out_of_memory more ring failed Failed a s on = on
  on_close t u z count out_of_memory more ring failed Stopped a s on = (s on.0, on.1)

  -- a close adds no visit without a verdict
  close_unchecked : (t u : Tally) (z : ℕ → ℕ) (out_of_memory more : Bool) → Adds t u none_of none_of z → Stays out_of_memory more → (out_of_memory ≡ false → (k : ℕ) → t.unchecked k ≡ 0) → more ≡ false → (k : ℕ) → u.unchecked k ≡ 0
  close_unchecked t u z out_of_memory more a s h e k =
      let was : out_of_memory ≡ false = elim (cases_Bool out_of_memory) [ inl up ↦ (let m : more ≡ true = s up in cc) | inr down ↦ down ] in
      let f : u.unchecked k ≡ 0 + t.unchecked k = a.unchecked_is k in
      let none : t.unchecked k ≡ 0 = h was k in
      omega arith

  -- the close came
  pub close_arrives : (t u : Tally) (seq : ℕ) (end : End) (p : JobProgress) (arrived : ℕ) (out_of_memory : Bool) (events : List Event) (failed : List Delivery)
      → IsFine all u → IsCloseArrival all over seq end t u → IsUnderWay all over t p events failed → (p.arrived < 4294967296 → arrived ≡ 1 + p.arrived) → Stays p.out_of_memory out_of_memory → (end ≡ Memory → out_of_memory ≡ true)
      → IsUnderWay all over u (record p { arrived = arrived; close = Some (record { seq = seq; end = end }); out_of_memory = out_of_memory }) events failed
  close_arrives t u seq end p arrived out_of_memory events failed fine a w counts stays memory =
      let adds = a.1 in
      let more : u.count ≡ 1 + t.count = adds.count_is in
      let few : u.count ≤ 4294967296 = few_items all u fine in
      let was : p.arrived ≡ t.count = w.arrived in
      let is : arrived ≡ 1 + p.arrived = counts (omega arith) in
      let one : point seq seq ≡ 1 = point_here seq in
      let e : u.closes seq ≡ point seq seq + t.closes seq = adds.closes_is seq in
      record {
        arrived = omega arith;
        closing = (omega arith, a.0, memory);
        unchecked = close_unchecked t u (point seq) p.out_of_memory out_of_memory adds stays w.unchecked;
        count = w.count;
        within = w.within;
        told = w.told;
        checked = checked_adds all over t u none_of none_of (point seq) w.count adds w.checked;
        on = on_close t u (point seq) w.count p.out_of_memory out_of_memory p.ring failed p.stage adds stays w.on;
      }

  -- two closes contradict fine counts: the second has the first's number or one that may not occur
  two_closes : (t u : Tally) (seq : ℕ) (z : Option WalkEnd) (out_of_memory : Bool) → IsFine all u → Adds t u none_of none_of (point seq) → IsCloseKnown all over t out_of_memory z → is_some z ≡ true → ⊥
  two_closes t u seq None out_of_memory fine adds h e = cc
  two_closes t u seq (Some w) out_of_memory fine adds h e =
      let old : 0 < t.closes w.seq = h.0 in
      let one : point seq seq ≡ 1 = point_here seq in
      let a : u.closes seq ≡ point seq seq + t.closes seq = adds.closes_is seq in
      let b : u.closes w.seq ≡ point seq w.seq + t.closes w.seq = adds.closes_is w.seq in
      elim (cases_lt w.seq seq) [
        | inl less ↦ (let none : seen u seq ≡ 0 = fine.last w.seq seq (omega arith) less in absurd (omega arith))
        | inr le ↦
            elim (cases_lt seq w.seq) [
              | inl more ↦ (let none : seen u w.seq ≡ 0 = fine.last seq w.seq (omega arith) more in absurd (omega arith))
              | inr ge ↦
                  (let same : w.seq ≡ seq = omega arith in let there : 0 < t.closes seq = subst (λ (i : ℕ). 0 < t.closes i) same old in let most : seen u seq ≤ 1 = fine.once seq in absurd (omega arith))
            ]
      ]

  -- so a second close isn't good
  pub no_second_close : (t u : Tally) (seq : ℕ) (end : End) (p : JobProgress) (events : List Event) (failed : List Delivery)
      → IsFine all u → IsCloseArrival all over seq end t u → IsUnderWay all over t p events failed → is_some p.close ≡ true → ⊥
  no_second_close t u seq end p events failed fine a w e = two_closes t u seq p.close p.out_of_memory fine a.1 w.closing e
