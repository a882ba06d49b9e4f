-- What the caller has after several of its steps.
use Rattle.std.proofs.Common.{◌≡◌, ℕ, ◌≤◌, List, [], ◌++◌, All, length, take, drop, take_all, refl, sym, ◌∙◌, ap, subst, arith}
use Rattle.std.proofs.lemmas.List.{take-append-le}
use Rattle.ix_car.specs.Events.{Calls}
use Rattle.ix_car.specs.Headline.{EachKept, Fact}
use Rattle.ix_stages.specs.declared.lanes.LaneOut.{LaneOut}
use Rattle.ix_stages.specs.Lanes.{EachLane, EachSameOut, all_received}
use Rattle.ix_stages.specs.Seats.{SeatView}
use Rattle.ix_stages.specs.declared.shared.Shared.{Shared}
use Rattle.ix_stages.specs.declared.shared.Task.{Task}
use Rattle.ix_stages.specs.Shared.{store_of, jobs_of, queue_of}
use Rattle.ix_pipeline.specs.Collected.{job_count, IsDone}
use Rattle.ix_pipeline.specs.Collecting.{CollectsAfter}
use Rattle.ix_pipeline.proofs.Kept.{kept_trans}
use Rattle.ix_pipeline.proofs.Gathering.{each_same_trans, on_same, on_trans, same_self}
use Rattle.ix_pipeline.specs.declared.caller.Caller.{Caller}
use Rattle.ix_pipeline.specs.declared.flowing.Outcome.{Outcome}
use Rattle.ix_pipeline.specs.Caller.{CanDrain, Gathers, HasJoined, HasRoom, IsRoomFor, IsSeatOf, IsStarted, IsTold, Joins, Stops}
use Rattle.ix_pipeline.specs.Flowing.{IsFlown}
use Rattle.ix_pipeline.specs.Verifiers.{EachBack, IsBegan}
use Rattle.ix_pipeline.proofs.Ends.{lanes_back}

module _ {C : Type 0} where
  -- no step
  pub stops_none : (a : Caller C) → Stops a a
  stops_none a = record { seat = (refl, refl); rest = refl }

  -- Stops put after what it did before
  pub stops_more : {a b : Caller C} {s : SeatView} → Stops a b → IsSeatOf b.stop s → Stops a (record b { stop = s })
  stops_more {s = s} h i = record { seat = (i.0 ∙ h.seat.0, i.1 ∙ h.seat.1); rest = ap (λ (d : Caller C). record d { stop = s }) h.rest }

  -- one after the other
  stops_trans : {a b d : Caller C} → Stops a b → Stops b d → Stops a d
  stops_trans {d = d} h k = record {
    seat = (k.seat.0 ∙ h.seat.0, k.seat.1 ∙ h.seat.1);
    rest = k.rest ∙ ap (λ (e : Caller C). record e { lanes = d.lanes; collector = d.collector; stop = d.stop }) h.rest;
  }

  -- the room is the same, whichever verifiers are there
  pub room_same : {n k : ℕ} {a b : Caller C} → HasRoom n k a → b ≡ record a { unstarted = b.unstarted } → HasRoom n k b
  room_same {n = n} {k = k} h e = subst (λ (d : Caller C). HasRoom n k d) (sym e) (record { collector = h.collector; verifiers = h.verifiers; lanes = h.lanes; join = h.join; ends = h.ends })

module _ {S C About : Type 0} {calls : S → Calls} {guarantee : Fact S About} where
  -- one after the other
  pub gathers_trans : {a b d : Caller C} {first then sinks : List S} → Gathers calls guarantee a b first then → Gathers calls guarantee b d then sinks → Gathers calls guarantee a d first sinks
  gathers_trans {a = a} {b = b} {d = d} {first = first} {then = then} {sinks = sinks} h k = record {
    on = on_trans calls guarantee a.collector b.collector d.collector first then sinks h.on k.on;
    collected = k.collected;
    lanes = each_same_trans a.lanes.items b.lanes.items d.lanes.items h.lanes k.lanes;
    stops = stops_trans h.stops k.stops;
  }

  -- Stops put after it received
  pub gathers_stop : {a b : Caller C} {s : SeatView} {first sinks : List S} → Gathers calls guarantee a b first sinks → IsSeatOf b.stop s → Gathers calls guarantee a (record b { stop = s }) first sinks
  gathers_stop h i = record { on = h.on; collected = h.collected; lanes = h.lanes; stops = stops_more h.stops i }

  -- it may go on receiving
  pub told_after : {a b : Caller C} {first sinks : List S} → Gathers calls guarantee a b first sinks → IsTold calls b sinks
  told_after h = (record { sinks = h.on.sinks; may = h.on.may }, h.collected)

module _ {S C About : Type 0} (calls : S → Calls) (guarantee : Fact S About) where
  -- before the first round
  pub gathers_none : (a : Caller C) (sinks : List S) → IsTold calls a sinks → Gathers calls guarantee a a sinks sinks
  gathers_none a sinks told = record { on = on_same calls guarantee a.collector sinks told.0; collected = told.1; lanes = same_self a.lanes.items; stops = stops_none a }

  -- one round more, in which the collector changed and the lanes, lent as a slice, went from ls to ms
  pub gathers_more : (a b d : Caller C) (ls ms : List LaneOut) (first then sinks : List S) → Gathers calls guarantee a b first then → d ≡ record b { lanes = d.lanes; collector = d.collector } → ls ≡ b.lanes.items → length ms ≡ b.lanes.len
      → d.lanes.items ≡ take b.lanes.len (ms ++ drop (length ms) b.lanes.items) → EachSameOut ls ms → CollectsAfter calls guarantee (all_received ls) (all_received ms) b.collector d.collector then sinks → Gathers calls guarantee a d first sinks
  gathers_more a b d ls ms first then sinks h rest old len back lanes more =
      let within : b.lanes.len ≤ length ms = omega arith in
      let new : d.lanes.items ≡ ms = back ∙ (rw take-append-le (take_all b.lanes.len ms (omega arith))) in
      let P : List LaneOut → List LaneOut → Type 0 = λ os ps. EachSameOut os ps × CollectsAfter calls guarantee (all_received os) (all_received ps) b.collector d.collector then sinks in
      let both : P b.lanes.items d.lanes.items = subst (P b.lanes.items) (sym new) (subst (λ os. P os ms) old (lanes, more)) in
      gathers_trans h (record {
        on = both.1.on;
        collected = λ store jobs. both.1.collected store jobs [] (h.collected store jobs);
        lanes = both.0;
        stops = record {
          seat = (ap (λ (e : Caller C). e.stop.table) rest, ap (λ (e : Caller C). e.stop.pass.course) rest);
          rest = rest ∙ ap (λ (s : SeatView). record b { lanes = d.lanes; collector = d.collector; stop = s }) (sym (ap (λ (e : Caller C). e.stop) rest));
        };
      })

module _ {C G : Type 0} {checked : C → List (ℕ × ℕ)} {x : Shared G} {c d e : Caller C} (started : IsStarted checked x c) (joins : Joins checked d e) where
  -- the seats of joined verifiers may be settled
  pub joined_after : Stops c d → HasJoined checked x e
  joined_after stops =
      let seat : e.stop ≡ d.stop = ap (λ (v : Caller C). v.stop) joins.rest in
      record {
        limits = started.limits;
        stop = (ap (λ (s : SeatView). s.table) seat ∙ stops.seat.0 ∙ started.stop.0, ap (λ (s : SeatView). s.pass.course) seat ∙ stops.seat.1 ∙ started.stop.1);
        joined = joins.joined (store_of x) (queue_of x) (subst (λ (v : Caller C). All (IsBegan checked (store_of x) (queue_of x)) v.verifiers.items) (sym stops.rest) started.began);
        ends = subst (λ (v : Caller C). IsRoomFor (length (jobs_of x)) v.ends) (sym joins.rest) (subst (λ (v : Caller C). IsRoomFor (length (jobs_of x)) v.ends) (sym stops.rest) started.ends);
      }

  -- what is left in the lanes of joined verifiers may be received
  pub drain_after : {S About : Type 0} {calls : S → Calls} {guarantee : Fact S About} {first sinks : List S}
      → Gathers calls guarantee c d first sinks → IsDone d.collector → CanDrain calls (length (jobs_of x)) e sinks
  drain_after {calls = calls} {sinks = sinks} gathers done =
      let back = subst (λ (v : Caller C). EachBack v.verifiers.items e.senders.items) gathers.stops.rest joins.lanes in
      let lanes = lanes_back c.verifiers.items e.senders.items c.lanes.items d.lanes.items started.lanes back gathers.lanes in
      record {
        lanes = subst (λ (v : Caller C). EachLane e.senders.items v.lanes.items) (sym joins.rest) lanes;
        told = subst (λ (v : Caller C). IsTold calls v sinks) (sym joins.rest) (told_after gathers);
        jobs = ap (λ (v : Caller C). job_count v.collector) joins.rest ∙ gathers.on.jobs ∙ started.collector.1;
        done = subst (λ (v : Caller C). IsDone v.collector) (sym joins.rest) done;
      }

-- what a flow leaves, of sinks that keep what earlier ones promised
pub flown_after : {S C G About : Type 0} {calls : S → Calls} {guarantee : Fact S About} {checked : C → List (ℕ × ℕ)} {task : Task G} {first then sinks : List S} {outcome : Outcome C}
    → EachKept guarantee first then → IsFlown calls guarantee checked task then sinks outcome → IsFlown calls guarantee checked task first sinks outcome
flown_after {guarantee = guarantee} {first = first} {then = then} {sinks = sinks} kept h = record { delivered = h.delivered; kept = kept_trans guarantee first then sinks kept h.kept; checks = h.checks; started = h.started }
