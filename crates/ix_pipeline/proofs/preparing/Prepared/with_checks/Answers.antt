use Rattle.std.proofs.Common.{rules, ◌≡◌, ◌≤◌, ℕ, [], ◌∷◌, List, All, length, map, replicate, vec_len, ap, sym, subst, refl, ◌∙◌, arith}
use Rattle.std.proofs.lemmas.List.Elements.{All-weaker, All-replicate, All-push}
use Rattle.std.proofs.lemmas.List.{length-replicate}
use Rattle.std.specs.Vec.Iter.{into_iter_items}
use Rattle.ix_walk.specs.JobMeaning.{IsJob}
use Rattle.ix_car.specs.Headline.{EachUnused}
use Rattle.ix_stages.specs.declared.lanes.LaneIn.{LaneIn}
use Rattle.ix_stages.specs.declared.lanes.LaneOut.{LaneOut}
use Rattle.ix_stages.specs.Claims.{IsOfClaims, SeatMeaning, new_seat}
use Rattle.ix_stages.specs.Course.{course_of}
use Rattle.ix_stages.specs.Lanes.{IsNewLane}
use Rattle.ix_stages.specs.Queue.{table_of}
use Rattle.ix_stages.specs.Seats.{JobView, SeatView}
use Rattle.ix_stages.specs.Walking.{IsReady}
use Rattle.ix_pipeline.specs.declared.verifying.Verifier.{Verifier}
use Rattle.ix_pipeline.specs.declared.caller.Caller.{Caller}
use Rattle.ix_pipeline.specs.Caller.{HasRoom}
use Rattle.ix_pipeline.specs.Verifiers.{IsUnstarted}
use Rattle.ix_pipeline.proofs.Callers.{room_same}
use Rattle.ix_pipeline.proofs.Lists.{all_front, all_last, length_count}
use Rattle.ix_pipeline.proofs.Makes.{IsIdle, seats_ready, seats_each, takers_idle}
use Rattle.ix_pipeline.proofs.preparing.Prepared.with_checks.Goals as goal

pub new-requires-2-clause-values : goal.new-requires-2-clause-values
new-requires-2-clause-values g c =
    let len = ap length c.in_ok-parts.ensures.jobs ∙ length_count _ 0 c.len-count.result in
    let many = c.len-count.ensures in
    let ok = c.args.jobs.now.ok.0 in
    let most = c.requires.jobs in
    omega (arith, len, many, ok, most)

pub loop-check-init : goal.loop-check-init
loop-check-init g c =
    let store = c.args.store.now in
    let jobs = c.args.jobs.now.items in
    let t = table_of c.in_ok-parts.parts.queue in
    let verifiers = c.len-verifiers.result in
    let same : course_of c.of.result.value c.of-2.result.value.items ≡ course_of store jobs = λ i. course_of (c.of.ensures i) (c.of-2.ensures i).items in
    let items : into_iter_items c.into_iter-check-iterator.result ≡ c.args.checks.now.items = c.into_iter-check-iterator.ensures.into_iter_gives.0 ∙ ap (λ v. v.items) c.replace-check-items.ensures.value in
    let takers : vec_len c.in_ok-parts.parts.takers ≡ verifiers = c.in_ok-parts.parts.takers.ok.0 ∙ (ap length c.in_ok-parts.ensures.takers ∙ length-replicate verifiers _) in
    let count : verifiers ≡ length (into_iter_items c.into_iter-check-iterator.result) = c.len-verifiers.ensures ∙ c.args.checks.now.ok.0 ∙ sym (ap length items) in
    let none = c.in_ok-caller.ensures.none.0 in
    record {
      can_next = tt;
      finite = tt;
      unused = subst (λ (cs : List g.row.C.Denot). EachUnused g.C.Check.checked cs) (sym items) c.requires.unused;
      idle = takers_idle store jobs t _ _ same verifiers c.in_ok-parts.parts.takers.items (c.course_of_jobs.ensures.store store jobs) c.in_ok-parts.ensures.takers;
      new = c.in_ok-lanes.ensures.new;
      unstarted = subst (λ (us : List (Verifier g.row.C.Denot × LaneOut)). All (IsUnstarted g.C.Check.checked store t) us) (sym none) (λ k d lt. absurd (omega (arith, lt)));
      takers_left = takers ∙ count;
      lanes_left = c.in_ok-lanes.ensures.count ∙ count;
      count = (let empty = c.in_ok-caller.caller.unstarted.ok.0 in let zero = ap length none in let all = ap length items in let ok = c.args.checks.now.ok.0 in omega (arith, empty, zero, all, ok));
      room = refl;
      rest = refl;
    }

pub loop-check-preserved : goal.loop-check-preserved
loop-check-preserved g c =
    let h = c.loop-check.invariant in
    let checked = g.C.Check.checked in
    let store = c.args.store.now in
    let t = table_of c.in_ok-parts.parts.queue in
    let check = c.in-Some.check in
    let steps = c.in-Some.ensures.steps.0 in
    let unused = subst (λ (l : List g.row.C.Denot). EachUnused checked l) steps h.unused in
    let seat = c.in-Some-pop.seat in
    let lane = c.in-Some-pop-2.lane in
    let receiver = c.in-Some-pop-2.receiver in
    let New : LaneIn × LaneOut → Type 0 = λ p. IsNewLane c.args.plan.lane p.0 p.1 in
    let takers = subst (λ (l : List SeatView). All (IsIdle store t) l) c.in-Some-pop.ensures.items h.idle in
    let lanes = subst (λ (l : List (LaneIn × LaneOut)). All New l) c.in-Some-pop-2.ensures.items h.new in
    let is : IsIdle store t seat = all_last (IsIdle store t) c.pop.new.self.items seat takers in
    let new : New (lane, receiver) = all_last New c.pop-in-loop-check.new.self.items (lane, receiver) lanes in
    let unstarted : Verifier g.row.C.Denot × LaneOut = (record { seat = seat; lane = lane; check = check }, receiver) in
    let good : IsUnstarted checked store t unstarted = record { table = is.0; course = is.1; taken = is.2; sent = new.1; lane = new.0; received = new.2; unused = unused.0 } in
    record {
      can_next = tt;
      finite = tt;
      unused = unused.1;
      idle = all_front (IsIdle store t) c.pop.new.self.items (seat ∷ []) takers;
      new = all_front New c.pop-in-loop-check.new.self.items ((lane, receiver) ∷ []) lanes;
      unstarted = subst (λ (l : List (Verifier g.row.C.Denot × LaneOut)). All (IsUnstarted checked store t) l) (sym c.push_reserved.ensures.items) (All-push (IsUnstarted checked store t) c.loop-check.caller.unstarted.items unstarted h.unstarted good);
      takers_left = (let step = ap length steps in let less = c.in-Some-pop.ensures.len in let old = h.takers_left in omega arith);
      lanes_left = (let step = ap length steps in let less = c.in-Some-pop-2.ensures.len in let old = h.lanes_left in omega arith);
      count = (let step = ap length steps in let more = c.push_reserved.ensures.len in let old = h.count in omega arith);
      room = c.push_reserved.ensures.capacity ∙ h.room;
      rest = ap (λ (d : Caller g.row.C.Denot). record d { unstarted = c.push_reserved.new.self }) h.rest;
    }

pub returns-clause-prepared : goal.returns-clause-prepared
returns-clause-prepared g c =
    let store = c.args.store.now in
    let jobs = c.args.jobs.now.items in
    let t = table_of c.in_ok-parts.parts.queue in
    let same : course_of c.of.result.value c.of-2.result.value.items ≡ course_of store jobs = λ i. course_of (c.of.ensures i) (c.of-2.ensures i).items in
    let many : c.len-count.result ≡ length jobs = c.len-count.ensures ∙ c.args.jobs.now.ok.0 in
    let seats : All (IsReady store jobs t) c.in_ok-parts.parts.jobs.items = seats_ready store jobs t _ _ same c.len-count.result c.in_ok-parts.parts.jobs.items many c.in_ok-parts.ensures.jobs in
    let claims = c.in_ok-claims.claims in
    let h = c.loop-check.invariant in
    let given = c.in_ok-caller.ensures.given in
    let caller = c.loop-check.caller in
    let none = c.in-None.ensures.steps.0 in
    let full : c.len-verifiers.result ≡ vec_len caller.unstarted = (let all = h.count in let size = c.len-verifiers.ensures in omega (arith, all, size, none)) in
    let claimers : caller.claimers.items ≡ replicate c.args.plan.walkers (new_seat claims) = ap (λ (d : Caller g.row.C.Denot). d.claimers.items) h.rest ∙ ap (λ v. v.items) given.0 ∙ c.in_ok-claims.ensures.seats in
    let stop : caller.stop ≡ c.in_ok-parts.parts.stop = ap (λ (d : Caller g.row.C.Denot). d.stop) h.rest ∙ given.1 in
    record {
      seats = subst (λ (l : List JobView). All (IsReady store jobs t) l) (sym c.in_ok-claims.ensures.claims.0) seats;
      each = ap (λ (l : List JobView). map (λ s. s.job) l) c.in_ok-claims.ensures.claims.0 ∙ seats_each store jobs t _ _ same c.len-count.result c.in_ok-parts.parts.jobs.items many c.in_ok-parts.ensures.jobs;
      caller = record {
        unstarted = h.unstarted;
        claimers = subst (λ (l : List (SeatMeaning JobView)). All (IsOfClaims claims) l) (sym claimers) (All-replicate (IsOfClaims claims) c.args.plan.walkers _ refl);
        limits = All-weaker IsJob (λ job. job.limit ≤ 4294967295) (λ job is. is.bounded) jobs (subst (All IsJob) c.deref.ensures.value c.each_is_job.ensures);
        stop = (let made = c.in_ok-parts.ensures.stop in rw stop (search rules));
        room = subst (λ (n : ℕ). HasRoom n (vec_len caller.unstarted) caller) many (subst (λ (k : ℕ). HasRoom c.len-count.result k caller) full (room_same c.in_ok-caller.ensures.room h.rest));
      };
    }
