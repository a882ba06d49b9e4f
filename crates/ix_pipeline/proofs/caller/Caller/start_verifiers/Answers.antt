use Rattle.std.proofs.Common.{◌≡◌, [], ◌∷◌, ◌++◌, List, All, length, vec_len, refl, ap, sym, subst, ◌∙◌, arith}
use Rattle.std.proofs.lemmas.List.Elements.{All-nil, All-head, All-tail, All-push}
use Rattle.std.specs.Global.{Vec}
use Rattle.std.specs.Vec.Iter.{into_iter_items}
use Rattle.std.specs.declared.thread.PromisedHandle.{PromisedHandle}
use Rattle.ix_store.specs.Store.{Blocks}
use Rattle.ix_stages.specs.declared.lanes.LaneOut.{LaneOut}
use Rattle.ix_stages.specs.declared.verdicted.Verdicted.{Verdicted}
use Rattle.ix_stages.specs.Course.{IsCourseOf, course_of}
use Rattle.ix_stages.specs.Lanes.{received_by, all_received}
use Rattle.ix_stages.specs.Shared.{store_of, jobs_of, queue_of}
use Rattle.ix_pipeline.specs.Collected.{job_count, IsUnused}
use Rattle.ix_pipeline.specs.declared.caller.Caller.{Caller}
use Rattle.ix_pipeline.specs.declared.verifying.Verifier.{Verifier}
use Rattle.ix_pipeline.specs.declared.verifying.StartFacts.{StartFacts}
use Rattle.ix_pipeline.specs.Caller.{HasJoinRoom, IsRoomFor}
use Rattle.ix_pipeline.specs.Verifiers.{IsUnstarted, IsStartOf, IsBegan, EachOut}
use Rattle.ix_pipeline.proofs.Ends.{out_push}
use Rattle.ix_pipeline.proofs.Lists.{received_push}
use Rattle.ix_pipeline.proofs.Starts.{began_with, lane_of}
use Rattle.ix_pipeline.proofs.caller.Caller.start_verifiers.Goals as goal

pub loop-verifier-init : goal.loop-verifier-init
loop-verifier-init g c =
    let room = c.requires.room in
    let self = c.args.self.now in
    let P = IsBegan g.C.Check.checked (store_of c.args.shared.now) (queue_of c.args.shared.now) in
    let items : into_iter_items c.into_iter-verifier-iterator.result ≡ self.unstarted.items = c.into_iter-verifier-iterator.ensures.into_iter_gives.0 ∙ ap (λ (v : Vec (Verifier g.row.C.Denot × LaneOut)). v.items) c.replace-verifier-items.ensures.value in
    let count = ap length items in
    let unstarted = self.unstarted.ok.0 in
    record {
      can_next = tt;
      finite = tt;
      unstarted = subst (λ (l : List (Verifier g.row.C.Denot × LaneOut)). All (IsUnstarted g.C.Check.checked (store_of c.args.shared.now) (queue_of c.args.shared.now)) l) (sym items) c.requires.unstarted;
      began = subst (λ (l : List (PromisedHandle (Verifier g.row.C.Denot) (StartFacts g.row.C.Denot))). All P l) (sym room.verifiers.0) (All-nil P);
      lanes = subst (λ (l : List (PromisedHandle (Verifier g.row.C.Denot) (StartFacts g.row.C.Denot))). EachOut l self.lanes.items) (sym room.verifiers.0) (subst (λ (l : List LaneOut). EachOut {C = g.row.C.Denot} [] l) (sym room.lanes.0) tt);
      none = ap all_received room.lanes.0;
      verifiers_fit = ((let none = ap length room.verifiers.0 in let size = self.verifiers.ok.0 in omega arith), refl);
      lanes_fit = ((let none = ap length room.lanes.0 in let size = self.lanes.ok.0 in omega arith), refl);
      rest = refl;
    }

pub start_verifier-requires-after_bounds : goal.start_verifier-requires-after_bounds
start_verifier-requires-after_bounds g c = λ κs lives.
    let P = IsUnstarted g.C.Check.checked (store_of c.args.shared.now) (queue_of c.args.shared.now) in
    let all = subst (λ (l : List (Verifier g.row.C.Denot × LaneOut)). All P l) c.in-Some.ensures.steps.0 c.loop-verifier.invariant.unstarted in
    let is = All-head P (c.in-Some.verifier, c.in-Some.lane) (into_iter_items c.next.new.self) all in
    (is.table, subst (λ (s : Blocks). IsCourseOf s c.in-Some.verifier.seat.pass.course) (sym c.store-store.ensures) is.course)

pub loop-verifier-preserved : goal.loop-verifier-preserved
loop-verifier-preserved g c =
    let h = c.loop-verifier.invariant in
    let P = IsUnstarted g.C.Check.checked (store_of c.args.shared.now) (queue_of c.args.shared.now) in
    let rest = into_iter_items c.next.new.self in
    let steps = c.in-Some.ensures.steps.0 in
    let all = subst (λ (l : List (Verifier g.row.C.Denot × LaneOut)). All P l) steps h.unstarted in
    record {
      can_next = tt;
      finite = tt;
      unstarted = All-tail P (c.in-Some.verifier, c.in-Some.lane) rest all;
      began = h.began;
      lanes = h.lanes;
      none = h.none;
      verifiers_fit = ((let step = ap length steps in let old = h.verifiers_fit.0 in omega arith), h.verifiers_fit.1);
      lanes_fit = ((let step = ap length steps in let old = h.lanes_fit.0 in omega arith), h.lanes_fit.1);
      rest = h.rest;
    }

pub loop-verifier-preserved-in-Some-start_verifier : goal.loop-verifier-preserved-in-Some-start_verifier
loop-verifier-preserved-in-Some-start_verifier g c =
    let h = c.loop-verifier.invariant in
    let checked = g.C.Check.checked in
    let store = store_of c.args.shared.now in
    let t = queue_of c.args.shared.now in
    let P = IsUnstarted checked store t in
    let lane = c.in-Some.lane in
    let idle : Verifier g.row.C.Denot × LaneOut = (c.in-Some.verifier, lane) in
    let rest = into_iter_items c.next.new.self in
    let steps = c.in-Some.ensures.steps.0 in
    let all = subst (λ (l : List (Verifier g.row.C.Denot × LaneOut)). All P l) steps h.unstarted in
    let is : P idle = All-head P idle rest all in
    let handle = c.in-Some-start_verifier.handle in
    let e = subst (λ (s : Blocks). IsStartOf s c.in-Some.verifier handle) c.store-store.ensures c.in-Some-start_verifier.ensures in
    let verifiers = c.push_reserved.ensures in
    let lanes = c.push_reserved-in-Some-start_verifier.ensures in
    record {
      can_next = tt;
      finite = tt;
      unstarted = All-tail P idle rest all;
      began = subst (λ (l : List (PromisedHandle (Verifier g.row.C.Denot) (StartFacts g.row.C.Denot))). All (IsBegan checked store t) l) (sym verifiers.items)
          (All-push (IsBegan checked store t) c.loop-verifier.self.verifiers.items handle h.began (began_with checked store t idle handle is e));
      lanes = subst (λ (l : List LaneOut). EachOut c.push_reserved.new.self.items l) (sym lanes.items)
          (subst (λ (l : List (PromisedHandle (Verifier g.row.C.Denot) (StartFacts g.row.C.Denot))). EachOut l (c.loop-verifier.self.lanes.items ++ lane ∷ [])) (sym verifiers.items)
          (out_push c.loop-verifier.self.verifiers.items c.loop-verifier.self.lanes.items handle lane h.lanes (lane_of checked store t idle handle is e)));
      none = ap all_received lanes.items ∙ received_push c.loop-verifier.self.lanes.items lane ∙ ap (λ (l : List Verdicted). l ++ received_by lane) h.none ∙ is.received;
      verifiers_fit = ((let step = ap length steps in let more = verifiers.len in let old = h.verifiers_fit.0 in omega arith), verifiers.capacity ∙ h.verifiers_fit.1);
      lanes_fit = ((let step = ap length steps in let more = lanes.len in let old = h.lanes_fit.0 in omega arith), lanes.capacity ∙ h.lanes_fit.1);
      rest = ap (λ (d : Caller g.row.C.Denot). record d { verifiers = c.push_reserved.new.self; lanes = c.push_reserved-in-Some-start_verifier.new.self }) h.rest;
    }

pub returns-clause-started : goal.returns-clause-started
returns-clause-started g c =
    let h = c.loop-verifier.invariant in
    let can = c.requires in
    let count = h.verifiers_fit.0 in
    let n = length (jobs_of c.args.shared.now) in
    record {
      began = h.began;
      lanes = h.lanes;
      none = h.none;
      collector = subst (λ (d : Caller g.row.C.Denot). IsUnused d.collector × (job_count d.collector ≡ n)) (sym h.rest) can.room.collector;
      limits = can.limits;
      stop = subst (λ (d : Caller g.row.C.Denot). (d.stop.table ≡ queue_of c.args.shared.now) × (d.stop.pass.course ≡ course_of (store_of c.args.shared.now) (jobs_of c.args.shared.now))) (sym h.rest) can.stop;
      join = subst (λ (d : Caller g.row.C.Denot). HasJoinRoom (vec_len c.loop-verifier.self.verifiers) d) (sym h.rest) (let room = can.room.join in ((room.0.0, omega arith), (room.1.0, omega arith), (room.2.0, omega arith)));
      ends = subst (λ (d : Caller g.row.C.Denot). IsRoomFor n d.ends) (sym h.rest) can.room.ends;
    }
