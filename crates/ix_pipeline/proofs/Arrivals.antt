-- A visit of a job comes.
use Rattle.std.proofs.Common.{◌≡◌, ℕ, ◌+◌, ◌<◌, ◌≤◌, Bool, true, false, List, Option, Some, None, refl, sym, ◌∙◌, subst, inl, inr, arith}
use Rattle.std.specs.Prelude.{is_some, not, min, ◌||◌}
use Rattle.std.proofs.lemmas.Bool.{cases_lt, cases_Bool}
use Rattle.ix_car.specs.declared.sink.Delivery.{Delivery}
use Rattle.ix_car.specs.Events.{Event}
use Rattle.ix_pipeline.specs.declared.ring_fault.RingFault.{RingFault}
use Rattle.ix_pipeline.specs.declared.ring_fault.RingFault.TheVariants as faults
use Rattle.ix_pipeline.specs.declared.job_progress.JobProgress.{JobProgress}
use Rattle.ix_pipeline.specs.declared.job_progress.Stage.{Stage}
use Rattle.ix_pipeline.specs.declared.job_progress.Stage.TheVariants.{Delivering, Failed, Stopped}
use Rattle.ix_pipeline.specs.declared.job_progress.WalkEnd.{WalkEnd}
use Rattle.ix_pipeline.specs.Numbered.{Numbered, found, IsPlaced, IsRefused, IsMemory}
use Rattle.ix_stages.specs.Received.{Tally, seen, point}
use Rattle.ix_pipeline.specs.JobProgress.{IsFine, Adds, none_of, IsArrival, IsHeld, IsNear, IsWaiting, IsOn, IsCloseKnown, IsUnderWay}
use Rattle.ix_pipeline.proofs.Counting.{point_here, point_else, few_items}

-- once memory ran out, this stays noted
abbrev pub Stays : Bool → Bool → Type 0
Stays out_of_memory more = out_of_memory ≡ true → more ≡ true

-- a visit without a verdict means that memory ran out
abbrev pub IsShortBy : Option Delivery → Bool → Type 0
IsShortBy (Some d) more = Unit {0}
IsShortBy None more = more ≡ true

module _ (all : List Delivery) (over : Bool) where
  -- what is known of an item in the ring stays true as counts rise
  pub held_adds : (t u : Tally) (c n z : ℕ → ℕ) (out_of_memory more : Bool) (k : ℕ) (o : Option Delivery) → Adds t u c n z → Stays out_of_memory more → IsHeld all t out_of_memory k o → IsHeld all u more k o
  held_adds t u c n z out_of_memory more k (Some d) a s h = (h.0, (let e : u.checked k ≡ c k + t.checked k = a.checked_is k in let l : 0 < t.checked k = h.1 in omega arith))
  held_adds t u c n z out_of_memory more k None a s h = (s h.0, (let e : u.unchecked k ≡ n k + t.unchecked k = a.unchecked_is k in let l : 0 < t.unchecked k = h.1 in omega arith))

  -- what is known of the close stays true if no close comes
  close_adds : (t u : Tally) (c n : ℕ → ℕ) (out_of_memory more : Bool) (w : Option WalkEnd) → Adds t u c n none_of → Stays out_of_memory more → IsCloseKnown all over t out_of_memory w → IsCloseKnown all over u more w
  close_adds t u c n out_of_memory more None a s h = λ k. let e : u.closes k ≡ 0 + t.closes k = a.closes_is k in let z : t.closes k ≡ 0 = h k in omega arith
  close_adds t u c n out_of_memory more (Some w) a s h = ((let e : u.closes w.seq ≡ 0 + t.closes w.seq = a.closes_is w.seq in let l : 0 < t.closes w.seq = h.0 in omega arith), h.1, λ m. s (h.2 m))

  -- a visit that was checked stays checked
  pub checked_adds : (t u : Tally) (c n z : ℕ → ℕ) (count : ℕ) → Adds t u c n z → ((k : ℕ) → k < count → 0 < t.checked k) → (k : ℕ) → k < count → 0 < u.checked k
  checked_adds t u c n z count a h k lt = let e : u.checked k ≡ c k + t.checked k = a.checked_is k in let l : 0 < t.checked k = h k lt in omega arith

  -- an item is placed in the ring
  waiting_placed : (t u : Tally) (c n : ℕ → ℕ) (out_of_memory more : Bool) (ring new : Numbered (Option Delivery)) (k : ℕ) (o : Option Delivery)
      → Adds t u c n none_of → ((j : ℕ) → (j ≡ k → ⊥) → c j + n j ≡ 0) → Stays out_of_memory more → IsHeld all u more k o → IsPlaced ring k o new → IsWaiting all t out_of_memory ring → IsWaiting all u more new
  waiting_placed t u c n out_of_memory more ring new k o a besides s held p w = record {
    held = λ j x e.
        elim (cases_lt j k) [
          | inl less ↦ held_adds t u c n none_of out_of_memory more j x a s (w.held j x (sym (p.3 j (λ (h : j ≡ k). absurd (omega arith))) ∙ e))
          | inr le ↦
              elim (cases_lt k j) [
                | inl greater ↦ held_adds t u c n none_of out_of_memory more j x a s (w.held j x (sym (p.3 j (λ (h : j ≡ k). absurd (omega arith))) ∙ e))
                | inr ge ↦
                    (let same : j ≡ k = omega arith in
                    let here : found new k ≡ Some x = subst (λ (i : ℕ). found new i ≡ Some x) same e in
                    let both : Some o ≡ Some x = sym p.2 ∙ here in
                    let is : o ≡ x = cc in
                    subst (λ (i : ℕ). IsHeld all u more i x) (sym same) (subst (λ (y : Option Delivery). IsHeld all u more k y) is held))
              ]
        ];
    missing = λ j low none.
        let other : j ≡ k → ⊥ = λ (h : j ≡ k). let here : found new k ≡ None = subst (λ (i : ℕ). found new i ≡ None) h none in let both : Some o ≡ None = sym p.2 ∙ here in cc in
        let zero_then : t.checked j + t.unchecked j ≡ 0 = w.missing j (subst (λ (m : ℕ). m ≤ j) p.1 low) (sym (p.3 j other) ∙ none) in
        let rise : c j + n j ≡ 0 = besides j other in
        let e : u.checked j ≡ c j + t.checked j = a.checked_is j in
        let f : u.unchecked j ≡ n j + t.unchecked j = a.unchecked_is j in
        omega arith;
  }

  -- a number comes once, since fine counts are at most 1
  twice : (t u : Tally) (seq : ℕ) (o : Option Delivery) → IsFine all u → IsArrival all seq o t u → 0 < seen t seq → ⊥
  twice t u seq (Some d) fine a some =
      let r = a.1 in
      let e : u.checked seq ≡ point seq seq + t.checked seq = r.checked_is seq in
      let f : u.unchecked seq ≡ 0 + t.unchecked seq = r.unchecked_is seq in
      let g : u.closes seq ≡ 0 + t.closes seq = r.closes_is seq in
      let one : point seq seq ≡ 1 = point_here seq in
      let most : seen u seq ≤ 1 = fine.once seq in
      absurd (omega arith)
  twice t u seq None fine a some =
      let r = a.1 in
      let e : u.checked seq ≡ 0 + t.checked seq = r.checked_is seq in
      let f : u.unchecked seq ≡ point seq seq + t.unchecked seq = r.unchecked_is seq in
      let g : u.closes seq ≡ 0 + t.closes seq = r.closes_is seq in
      let one : point seq seq ≡ 1 = point_here seq in
      let most : seen u seq ≤ 1 = fine.once seq in
      absurd (omega arith)

  -- an item in the ring was received
  seen_held : (t : Tally) (out_of_memory : Bool) (k : ℕ) (o : Option Delivery) → IsHeld all t out_of_memory k o → 0 < seen t k
  seen_held t out_of_memory k (Some d) h = let l : 0 < t.checked k = h.1 in omega arith
  seen_held t out_of_memory k None h = let l : 0 < t.unchecked k = h.1 in omega arith

  -- the count of items is within its bound, so it can't saturate
  few_before : (t u : Tally) (seq : ℕ) (o : Option Delivery) → IsFine all u → IsArrival all seq o t u → t.count < 4294967296
  few_before t u seq (Some d) fine a = let e : u.count ≡ 1 + t.count = (let r = a.1 in r.count_is) in let l : u.count ≤ 4294967296 = few_items all u fine in omega arith
  few_before t u seq None fine a = let e : u.count ≡ 1 + t.count = (let r = a.1 in r.count_is) in let l : u.count ≤ 4294967296 = few_items all u fine in omega arith

  -- an arrival counts as one item
  arrival_count : (t u : Tally) (seq : ℕ) (o : Option Delivery) → IsArrival all seq o t u → u.count ≡ 1 + t.count
  arrival_count t u seq (Some d) a = let r = a.1 in r.count_is
  arrival_count t u seq None a = let r = a.1 in r.count_is

  -- an arrival doesn't change what is known of the close
  arrival_close : (t u : Tally) (seq : ℕ) (o : Option Delivery) (out_of_memory more : Bool) (w : Option WalkEnd) → IsArrival all seq o t u → Stays out_of_memory more → IsCloseKnown all over t out_of_memory w → IsCloseKnown all over u more w
  arrival_close t u seq (Some d) out_of_memory more w a s h = close_adds t u (point seq) none_of out_of_memory more w a.1 s h
  arrival_close t u seq None out_of_memory more w a s h = close_adds t u none_of (point seq) out_of_memory more w a.1 s h

  -- what was checked stays so
  arrival_checked : (t u : Tally) (seq : ℕ) (o : Option Delivery) (count : ℕ) → IsArrival all seq o t u → ((k : ℕ) → k < count → 0 < t.checked k) → (k : ℕ) → k < count → 0 < u.checked k
  arrival_checked t u seq (Some d) count a h = checked_adds t u (point seq) none_of none_of count a.1 h
  arrival_checked t u seq None count a h = checked_adds t u none_of (point seq) none_of count a.1 h

  -- without a visit that ran out of memory none is without a verdict
  arrival_unchecked : (t u : Tally) (seq : ℕ) (o : Option Delivery) (out_of_memory more : Bool)
      → IsArrival all seq o t u → Stays out_of_memory more → IsShortBy o more → (out_of_memory ≡ false → (k : ℕ) → t.unchecked k ≡ 0) → more ≡ false → (k : ℕ) → u.unchecked k ≡ 0
  arrival_unchecked t u seq (Some d) out_of_memory more a s b h e k =
      let was : out_of_memory ≡ false = elim (cases_Bool out_of_memory) [ inl up ↦ (let m : more ≡ true = s up in cc) | inr down ↦ down ] in
      let r = a.1 in
      let f : u.unchecked k ≡ 0 + t.unchecked k = r.unchecked_is k in
      let z : t.unchecked k ≡ 0 = h was k in
      omega arith
  arrival_unchecked t u seq None out_of_memory more a s b h e k = let m : more ≡ true = b in cc

  -- what is placed in the ring is the arrival
  arrival_held : (t u : Tally) (seq : ℕ) (o : Option Delivery) (more : Bool) → IsArrival all seq o t u → IsShortBy o more → IsHeld all u more seq o
  arrival_held t u seq (Some d) more a b =
      let r = a.1 in let e : u.checked seq ≡ point seq seq + t.checked seq = r.checked_is seq in let one : point seq seq ≡ 1 = point_here seq in (a.0, omega arith)
  arrival_held t u seq None more a b =
      let r = a.1 in let e : u.unchecked seq ≡ point seq seq + t.unchecked seq = r.unchecked_is seq in let one : point seq seq ≡ 1 = point_here seq in (b, omega arith)

  -- the ring has the arrival and what it had before
  arrival_waiting : (t u : Tally) (seq : ℕ) (o : Option Delivery) (out_of_memory more : Bool) (ring new : Numbered (Option Delivery))
      → IsArrival all seq o t u → Stays out_of_memory more → IsShortBy o more → IsPlaced ring seq o new → IsWaiting all t out_of_memory ring → IsWaiting all u more new
  arrival_waiting t u seq (Some d) out_of_memory more ring new a s b p w =
      waiting_placed t u (point seq) none_of out_of_memory more ring new seq (Some d) a.1 (λ j ne. let z : point seq j ≡ 0 = point_else seq j ne in omega arith) s (arrival_held t u seq (Some d) more a b) p w
  arrival_waiting t u seq None out_of_memory more ring new a s b p w =
      waiting_placed t u none_of (point seq) out_of_memory more ring new seq None a.1 (λ j ne. let z : point seq j ≡ 0 = point_else seq j ne in omega arith) s (arrival_held t u seq None more a b) p w

  -- a visit came, and where it went is known
  arrives : (t u : Tally) (seq : ℕ) (o : Option Delivery) (p q : JobProgress) (events : List Event) (failed : List Delivery)
      → IsFine all u → IsArrival all seq o t u → (w : IsUnderWay all over t p events failed) → (p.arrived < 4294967296 → q.arrived ≡ 1 + p.arrived) → q.close ≡ p.close → Stays p.out_of_memory q.out_of_memory → IsShortBy o q.out_of_memory
      → IsOn all u w.count q.out_of_memory q.ring failed q.stage → IsUnderWay all over u q events failed
  arrives t u seq o p q events failed fine a w counts closes stays out_of_memory on =
      let few : t.count < 4294967296 = few_before t u seq o fine a in
      let was : p.arrived ≡ t.count = w.arrived in
      let is : q.arrived ≡ 1 + p.arrived = counts (omega arith) in
      let more : u.count ≡ 1 + t.count = arrival_count t u seq o a in
      record {
        arrived = omega arith;
        closing = subst (λ (x : Option WalkEnd). IsCloseKnown all over u q.out_of_memory x) (sym closes) (arrival_close t u seq o p.out_of_memory q.out_of_memory p.close a stays w.closing);
        unchecked = arrival_unchecked t u seq o p.out_of_memory q.out_of_memory a stays out_of_memory w.unchecked;
        count = w.count;
        within = w.within;
        told = w.told;
        checked = arrival_checked t u seq o w.count a w.checked;
        on = on;
      }

  -- when deliveries have ended, an arrival changes nothing of why
  other_on : (t u : Tally) (count : ℕ) (out_of_memory more : Bool) (ring new : Numbered (Option Delivery)) (failed : List Delivery) (stage : Stage)
      → (stage ≡ Delivering → ⊥) → Stays out_of_memory more → IsOn all t count out_of_memory ring failed stage → IsOn all u count more new failed stage
  other_on t u count out_of_memory more ring new failed Delivering ne s on = absurd (ne refl)
  other_on t u count out_of_memory more ring new failed Failed ne s on = on
  other_on t u count out_of_memory more ring new failed Stopped ne s on = (s on.0, on.1)

  -- what holds while visits are delivered
  pub on_delivering : (t : Tally) (count : ℕ) (out_of_memory : Bool) (ring : Numbered (Option Delivery)) (failed : List Delivery) (stage : Stage) → stage ≡ Delivering → IsOn all t count out_of_memory ring failed stage → IsOn all t count out_of_memory ring failed Delivering
  on_delivering t count out_of_memory ring failed stage e on = subst (λ (x : Stage). IsOn all t count out_of_memory ring failed x) e on

  -- a visit came after deliveries had ended
  pub arrives_late : (t u : Tally) (seq : ℕ) (o : Option Delivery) (p q : JobProgress) (events : List Event) (failed : List Delivery)
      → IsFine all u → IsArrival all seq o t u → IsUnderWay all over t p events failed → (p.arrived < 4294967296 → q.arrived ≡ 1 + p.arrived) → q.close ≡ p.close → Stays p.out_of_memory q.out_of_memory → IsShortBy o q.out_of_memory
      → (p.stage ≡ Delivering → ⊥) → q.stage ≡ p.stage → IsUnderWay all over u q events failed
  arrives_late t u seq o p q events failed fine a w counts closes stays out_of_memory ne stage =
      arrives t u seq o p q events failed fine a w counts closes stays out_of_memory
      (subst (λ (x : Stage). IsOn all u w.count q.out_of_memory q.ring failed x) (sym stage) (other_on t u w.count p.out_of_memory q.out_of_memory p.ring q.ring failed p.stage ne stays w.on))

  -- a visit was placed
  pub arrives_placed : (t u : Tally) (seq : ℕ) (o : Option Delivery) (p q : JobProgress) (events : List Event) (failed : List Delivery)
      → IsFine all u → IsArrival all seq o t u → IsUnderWay all over t p events failed → (p.arrived < 4294967296 → q.arrived ≡ 1 + p.arrived) → q.close ≡ p.close → Stays p.out_of_memory q.out_of_memory → IsShortBy o q.out_of_memory
      → p.stage ≡ Delivering → q.stage ≡ p.stage → IsPlaced p.ring seq o q.ring → IsUnderWay all over u q events failed
  arrives_placed t u seq o p q events failed fine a w counts closes stays out_of_memory at stage placed =
      let on = on_delivering t w.count p.out_of_memory p.ring failed p.stage at w.on in
      arrives t u seq o p q events failed fine a w counts closes stays out_of_memory
      (subst (λ (x : Stage). IsOn all u w.count q.out_of_memory q.ring failed x) (sym (stage ∙ at)) (on.0 ∙ sym placed.1, on.1, arrival_waiting t u seq o p.out_of_memory q.out_of_memory p.ring q.ring a stays out_of_memory placed on.2))

  -- memory ran out as a visit was placed
  pub arrives_short : (t u : Tally) (seq : ℕ) (o : Option Delivery) (p q : JobProgress) (events : List Event) (failed : List Delivery)
      → IsFine all u → IsArrival all seq o t u → IsUnderWay all over t p events failed → (p.arrived < 4294967296 → q.arrived ≡ 1 + p.arrived) → q.close ≡ p.close → q.out_of_memory ≡ true
      → p.stage ≡ Delivering → q.stage ≡ Stopped → IsUnderWay all over u q events failed
  arrives_short t u seq o p q events failed fine a w counts closes out_of_memory at stage =
      let on = on_delivering t w.count p.out_of_memory p.ring failed p.stage at w.on in
      arrives t u seq o p q events failed fine a w counts closes (λ e. out_of_memory) (short_by o q.out_of_memory out_of_memory) (subst (λ (x : Stage). IsOn all u w.count q.out_of_memory q.ring failed x) (sym stage) (out_of_memory, on.1))
    where
      short_by : (o : Option Delivery) (more : Bool) → more ≡ true → IsShortBy o more
      short_by (Some d) more e = tt
      short_by None more e = e

  -- the ring rejects an arrival that fits and is near for lack of memory alone
  pub refused_for_memory : (t u : Tally) (seq : ℕ) (o : Option Delivery) (p : JobProgress) (events : List Event) (failed : List Delivery) (fault : RingFault (Option Delivery))
      → IsFine all u → IsArrival all seq o t u → IsUnderWay all over t p events failed → p.stage ≡ Delivering → IsNear p seq → IsRefused p.ring seq o fault → IsMemory fault
  refused_for_memory t u seq o p events failed (faults.Passed x) fine a w at near r =
      let on = on_delivering t w.count p.out_of_memory p.ring failed p.stage at w.on in
      let next : w.count ≡ p.ring.next = on.0 in
      let lt : seq < p.ring.next = r.1 in
      let some : 0 < t.checked seq = w.checked seq (omega arith) in
      twice t u seq o fine a (omega arith)
  refused_for_memory t u seq o p events failed (faults.Far x) fine a w at near r =
      let far : p.ring.next + 1048576 ≤ seq = r.1 in let less : seq < p.ring.next + 16384 = near at in absurd (omega arith)
  refused_for_memory t u seq o p events failed (faults.Taken x) fine a w at near r =
      let on = on_delivering t w.count p.out_of_memory p.ring failed p.stage at w.on in
      let there = r.3 in
      let waiting = on.2 in
      twice t u seq o fine a (seen_held t p.out_of_memory seq there.0 (waiting.held seq there.0 there.1))
  refused_for_memory t u seq o p events failed (faults.Memory x) fine a w at near r = tt

-- a flag that is joined by `or` stays set
pub stays_or : (a b : Bool) → Stays a (a || b)
stays_or true b e = refl
stays_or false b e = cc

-- and is set by an arrival without a verdict
pub shorts_or : (o : Option Delivery) (a b : Bool) → is_some o ≡ not b → IsShortBy o (a || b)
shorts_or (Some d) a b e = tt
shorts_or None true b e = refl
shorts_or None false true e = refl
shorts_or None false false e = cc

-- the saturating count rises by one, since it is far from its bound
pub counts_up : (a r : ℕ) → r ≡ min (a + 1) 18446744073709551615 → a < 4294967296 → r ≡ 1 + a
counts_up a r e lt = omega arith
