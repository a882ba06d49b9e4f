-- When all has arrived the sink is closed, and nothing comes after.
use Rattle.std.proofs.Common.{◌≡◌, ℕ, suc, ◌+◌, ◌<◌, ◌≤◌, Bool, true, false, List, [], ◌∷◌, ◌++◌, length, Option, Some, None, refl, sym, ◌∙◌, ap, subst, inl, inr, arith}
use Rattle.std.specs.Prelude.{is_some}
use Rattle.std.proofs.lemmas.Bool.{cases_lt}
use Rattle.ix_car.specs.declared.sink.Delivery.{Delivery}
use Rattle.ix_car.specs.declared.sink.End.{End}
use Rattle.ix_car.specs.declared.sink.End.TheVariants.{Done, Limit, Memory, Write, Start}
use Rattle.ix_car.specs.Events.{Event, close}
use Rattle.ix_car.specs.Faithful.{EndFits}
use Rattle.ix_stages.specs.declared.verdicted.Verdicted.{Verdicted}
use Rattle.ix_stages.specs.declared.verdicted.Verdicted.TheVariants as items
use Rattle.ix_pipeline.specs.declared.job_progress.JobProgress.{JobProgress}
use Rattle.ix_pipeline.specs.declared.job_progress.Stage.{Stage}
use Rattle.ix_pipeline.specs.declared.job_progress.Stage.TheVariants.{Delivering, Failed, Stopped}
use Rattle.ix_pipeline.specs.declared.job_progress.WalkEnd.{WalkEnd}
use Rattle.ix_pipeline.specs.Numbered.{Numbered, found}
use Rattle.ix_stages.specs.Received.{Tally, point}
use Rattle.ix_stages.specs.Good.{IsCloseOf}
use Rattle.ix_pipeline.specs.JobProgress.{IsItem, IsComeTo, IsCome, IsFine, IsOn, IsCloseKnown, IsUnderWay, IsOver, IsCalm, end_of}
use Rattle.ix_pipeline.proofs.Counting.{full, no_more}
use Rattle.ix_pipeline.proofs.Arrivals.{on_delivering}

module _ (all : List Delivery) (over : Bool) (t : Tally) (fine : IsFine all t) where
  -- while visits are delivered and none is next, all that came were delivered
  all_delivered : (p : JobProgress) (events : List Event) (failed : List Delivery) (w : IsUnderWay all over t p events failed) (k : ℕ)
      → 0 < t.closes k → t.count ≡ suc k → p.stage ≡ Delivering → found p.ring p.ring.next ≡ None → k ≤ w.count
  all_delivered p events failed w k closed count at calm =
      let on = on_delivering all over t w.count p.out_of_memory p.ring failed p.stage at w.on in
      let next : w.count ≡ p.ring.next = on.0 in
      let waiting = on.2 in
      let none : t.checked p.ring.next + t.unchecked p.ring.next ≡ 0 = waiting.missing p.ring.next (omega arith) calm in
      elim (cases_lt w.count k) [
        | inl less ↦ (let one : t.checked p.ring.next + t.unchecked p.ring.next ≡ 1 = full all t fine k p.ring.next closed count (omega arith) in absurd (omega arith))
        | inr more ↦ more
      ]

  -- unless memory ran out all were checked
  every_checked : (k : ℕ) → 0 < t.closes k → t.count ≡ suc k → ((n : ℕ) → t.unchecked n ≡ 0) → k ≡ length all → (n : ℕ) → n < length all → 0 < t.checked n
  every_checked k closed count none is n lt = let one : t.checked n + t.unchecked n ≡ 1 = full all t fine k n closed count (omega arith) in let z : t.unchecked n ≡ 0 = none n in omega arith

  -- the close of a walk that didn't run out of memory is numbered by the length of all
  close_length : (out_of_memory : Bool) (end : End) (k : ℕ) → out_of_memory ≡ false → (end ≡ Memory → out_of_memory ≡ true) → IsCloseOf end k all over → k ≡ length all
  close_length out_of_memory Done k s m c = c.0
  close_length out_of_memory Limit k s m c = c.0
  close_length out_of_memory Memory k s m c = let is : out_of_memory ≡ true = m refl in cc
  close_length out_of_memory Write k s m c = absurd c
  close_length out_of_memory Start k s m c = absurd c

  -- if all was delivered, the walk's own end fits
  fits_walk : (out_of_memory : Bool) (end : End) (k count : ℕ) (failed : List Delivery) → out_of_memory ≡ false → (end ≡ Memory → out_of_memory ≡ true) → IsCloseOf end k all over → count ≡ length all → failed ≡ [] → EndFits end count all over failed
  fits_walk out_of_memory Done k count failed s m c e none = (e, c.1, none)
  fits_walk out_of_memory Limit k count failed s m c e none = (e, c.1, none)
  fits_walk out_of_memory Memory k count failed s m c e none = let is : out_of_memory ≡ true = m refl in cc
  fits_walk out_of_memory Write k count failed s m c e none = absurd c
  fits_walk out_of_memory Start k count failed s m c e none = absurd c

  -- whatever was delivered, the end for lack of memory fits
  fits_memory : (count : ℕ) (out_of_memory : Bool) (ring : Numbered (Option Delivery)) (failed : List Delivery) (stage : Stage) → IsOn all t count out_of_memory ring failed stage → EndFits Memory count all over failed
  fits_memory count out_of_memory ring failed Delivering on = inl on.1
  fits_memory count out_of_memory ring failed Failed on = inr on.1
  fits_memory count out_of_memory ring failed Stopped on = inl on.1

  -- the sink's end fits what was delivered
  fits_end : (out_of_memory : Bool) (stage : Stage) (end : End) (k count : ℕ) (ring : Numbered (Option Delivery)) (failed : List Delivery)
      → IsOn all t count out_of_memory ring failed stage → (end ≡ Memory → out_of_memory ≡ true) → IsCloseOf end k all over → (stage ≡ Delivering → out_of_memory ≡ false → count ≡ length all) → EndFits (end_of out_of_memory stage end) count all over failed
  fits_end true stage end k count ring failed on m c whole = fits_memory count true ring failed stage on
  fits_end false Delivering end k count ring failed on m c whole = fits_walk false end k count failed refl m c (whole refl refl) on.1
  fits_end false Failed end k count ring failed on m c whole = on
  fits_end false Stopped end k count ring failed on m c whole = let s : false ≡ true = on.0 in cc

  -- an end other than `Memory` means that memory didn't run out
  no_memory : (out_of_memory : Bool) (stage : Stage) (end : End) → (end_of out_of_memory stage end ≡ Memory → ⊥) → out_of_memory ≡ false
  no_memory true stage end ne = absurd (ne refl)
  no_memory false stage end ne = refl

  -- no walk closes with `Start`, and no step makes it
  never_start : (out_of_memory : Bool) (stage : Stage) (end : End) (k : ℕ) → IsCloseOf end k all over → end_of out_of_memory stage end ≡ Start → ⊥
  never_start true stage end k c e = cc
  never_start false Delivering Done k c e = cc
  never_start false Delivering Limit k c e = cc
  never_start false Delivering Memory k c e = cc
  never_start false Delivering Write k c e = absurd c
  never_start false Delivering Start k c e = absurd c
  never_start false Failed end k c e = cc
  never_start false Stopped Done k c e = cc
  never_start false Stopped Limit k c e = cc
  never_start false Stopped Memory k c e = cc
  never_start false Stopped Write k c e = absurd c
  never_start false Stopped Start k c e = absurd c

  -- all has arrived, and the sink is closed
  pub finishes : (p : JobProgress) (z : WalkEnd) (events new : List Event) (failed refused : List Delivery) (end : End)
      → IsUnderWay all over t p events failed → IsCalm p → p.close ≡ Some z → p.arrived ≡ z.seq + 1 → end ≡ end_of p.out_of_memory p.stage z.end → new ≡ events ++ close end ∷ [] → refused ≡ failed → IsOver all over t end new refused
  finishes p z events new failed refused end w calm is arrived ends told same =
      let known : IsCloseKnown all over t p.out_of_memory (Some z) = subst (λ (x : Option WalkEnd). IsCloseKnown all over t p.out_of_memory x) is w.closing in
      let came : p.arrived ≡ t.count = w.arrived in
      let count : t.count ≡ suc z.seq = omega arith in
      let whole : p.stage ≡ Delivering → p.out_of_memory ≡ false → w.count ≡ length all = λ at s.
      let size : z.seq ≡ length all = close_length p.out_of_memory z.end z.seq s known.2 known.1 in
      let le : z.seq ≤ w.count = all_delivered p events failed w z.seq known.0 count at (calm at) in
      let most : w.count ≤ length all = w.within in
      omega arith
      in
      record {
        count = w.count;
        within = w.within;
        told = told ∙ ap (λ (l : List Event). l ++ close end ∷ []) w.told;
        fits = subst (λ (f : List Delivery). EndFits end w.count all over f) (sym same) (subst (λ (x : End). EndFits x w.count all over failed) (sym ends) (fits_end p.out_of_memory p.stage z.end z.seq w.count p.ring failed w.on known.2 known.1 whole));
        checked = w.checked;
        last = z.seq;
        closed = known.0;
        full = count;
        every = λ ne n lt.
            let s : p.out_of_memory ≡ false = no_memory p.out_of_memory p.stage z.end (λ (e : end_of p.out_of_memory p.stage z.end ≡ Memory). ne (ends ∙ e)) in
            every_checked z.seq known.0 count (w.unchecked s) (close_length p.out_of_memory z.end z.seq s known.2 known.1) n lt;
        started = λ (e : end ≡ Start). never_start p.out_of_memory p.stage z.end z.seq known.1 (sym ends ∙ e);
      }

module _ (all : List Delivery) (over : Bool) where
  -- an item counts as one, and no close is lost
  item_counts : (item : Verdicted) (t u : Tally) → IsItem all over item t u → (u.count ≡ 1 + t.count) × ((k : ℕ) → t.closes k ≤ u.closes k)
  item_counts (items.Checked v d) t u i = let a = i.1 in (a.count_is, λ k. let e : u.closes k ≡ 0 + t.closes k = a.closes_is k in omega arith)
  item_counts (items.Unchecked j n) t u i = let a = i.1 in (a.count_is, λ k. let e : u.closes k ≡ 0 + t.closes k = a.closes_is k in omega arith)
  item_counts (items.Close j n end) t u i = let a = i.1 in (a.count_is, λ k. let e : u.closes k ≡ point n k + t.closes k = a.closes_is k in omega arith)
  item_counts items.Last t u i = absurd i

  -- a job that is over has all its items, so one more is too many
  over_alone : (item : Verdicted) (t u : Tally) (end : End) (events : List Event) (failed : List Delivery) → IsFine all u → IsItem all over item t u → IsOver all over t end events failed → ⊥
  over_alone item t u end events failed fine i w =
      let counts = item_counts item t u i in
      let more : u.count ≡ 1 + t.count = counts.0 in
      let rises : t.closes w.last ≤ u.closes w.last = counts.1 w.last in
      let came : 0 < t.closes w.last = w.closed in
      let was : t.count ≡ suc w.last = w.full in
      let most : u.count ≤ suc w.last = no_more all u fine w.last (omega arith) in
      absurd (omega arith)

  -- by how the sink was closed
  none_after : (item : Verdicted) (t u : Tally) (p : JobProgress) (events : List Event) (failed : List Delivery) (o : Option End)
      → IsFine all u → IsItem all over item t u → IsComeTo all over t p events failed o → is_some o ≡ true → ⊥
  none_after item t u p events failed None fine i w e = cc
  none_after item t u p events failed (Some end) fine i w e = over_alone item t u end events failed fine i w

  -- nothing comes once the sink is closed
  pub no_item_after : (item : Verdicted) (t u : Tally) (p : JobProgress) (events : List Event) (failed : List Delivery)
      → IsFine all u → IsItem all over item t u → IsCome all over t p events failed → is_some p.end ≡ true → ⊥
  no_item_after item t u p events failed fine i w e = none_after item t u p events failed p.end fine i w e

  -- a job whose sink isn't closed is under way
  pub under_way : (t : Tally) (p : JobProgress) (events : List Event) (failed : List Delivery) → p.end ≡ None → IsCome all over t p events failed → IsUnderWay all over t p events failed
  under_way t p events failed e w = let now : IsComeTo all over t p events failed None = subst (λ (o : Option End). IsComeTo all over t p events failed o) e w in now.0
