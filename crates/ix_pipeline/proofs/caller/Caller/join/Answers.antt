use Rattle.std.proofs.Common.{◌≡◌, ◌++◌, ◌∷◌, [], List, All, length, ap, sym, subst, ◌∙◌, arith, append_assoc, append-nil}
use Rattle.std.proofs.lemmas.List.{nil_from_length}
use Rattle.std.proofs.lemmas.List.Elements.{All-push}
use Rattle.std.specs.Vec.Iter.{into_iter_items}
use Rattle.std.specs.declared.thread.PromisedHandle.{PromisedHandle}
use Rattle.ix_store.specs.Store.{Blocks}
use Rattle.ix_stages.specs.declared.lanes.LaneIn.{LaneIn}
use Rattle.ix_stages.specs.Lanes.{sent_by, all_sent}
use Rattle.ix_stages.specs.Seats.{SeatView}
use Rattle.ix_stages.specs.Settled.{taken_by}
use Rattle.ix_stages.specs.Verified.{IsVerified}
use Rattle.ix_car.specs.Headline.{checked_by}
use Rattle.ix_pipeline.specs.declared.caller.Caller.{Caller}
use Rattle.ix_pipeline.specs.declared.verifying.Verifier.{Verifier}
use Rattle.ix_pipeline.specs.declared.verifying.StartFacts.{StartFacts}
use Rattle.ix_pipeline.specs.Caller.{AreJoined}
use Rattle.ix_pipeline.specs.Verifiers.{IsBegan, EachBack}
use Rattle.ix_pipeline.proofs.Ends.{back_push}
use Rattle.ix_pipeline.proofs.Lists.{all_front, all_last, sent_push}
use Rattle.ix_pipeline.proofs.Joins.{taken_push, checked_push, sent_all, checked_all, sent_more, checked_more}
use Rattle.ix_pipeline.proofs.caller.Caller.join.Goals as goal

pub loop-handle-preserved : goal.loop-handle-preserved
loop-handle-preserved g c =
    let h = c.loop-handle.invariant in
    let checked = g.C.Check.checked in
    let handle = c.in-Some.handle in
    let before = c.loop-handle.yielded in
    let rest = into_iter_items c.next.new.self in
    let steps = c.in-Some.ensures.steps.0 in
    let seat = c.join-seat.result.seat in
    let lane = c.join-seat.result.lane in
    let check = c.join-seat.result.check in
    let kept = c.join-seat.ensures in
    let takers = c.push_reserved.ensures in
    let senders = c.push_reserved-in-loop-handle.ensures in
    let checks = c.push_reserved-in-loop-handle-2.ensures in
    let taken_is = ap taken_by takers.items ∙ taken_push c.loop-handle.self.takers.items seat in
    let sent_is = ap all_sent senders.items ∙ sent_push c.loop-handle.self.senders.items lane in
    let checked_is = ap (checked_by checked) checks.items ∙ checked_push checked c.loop-handle.self.checks.items check in
    record {
      can_next = tt;
      finite = tt;
      split = h.split ∙ (ap (λ (l : List (PromisedHandle (Verifier g.row.C.Denot) (StartFacts g.row.C.Denot))). before ++ l) steps ∙ sym (append_assoc before (handle ∷ []) rest));
      sized = (let fewer = ap length steps in let size = h.sized in let len = c.in-Some.ensures.steps.1 in omega (arith, fewer, size, len));
      joined = λ store t all.
          let began : IsBegan checked store t handle = all_last (IsBegan checked store t) before handle all in
          let was = h.joined store t (all_front (IsBegan checked store t) before (handle ∷ []) all) in
          let did = subst (λ (s : Blocks). IsVerified s handle.promise.verifier.value.seat.pass seat.pass (sent_by handle.promise.verifier.value.lane) (sent_by lane) (checked handle.promise.verifier.value.check) (checked check)) began.store_is kept.2 in
          record {
            tables = subst (λ (l : List SeatView). All (λ s. s.table ≡ t) l) (sym takers.items) (All-push (λ (s : SeatView). s.table ≡ t) c.loop-handle.self.takers.items seat was.tables (kept.0 ∙ began.table));
            sent = sent_more store (taken_by c.loop-handle.self.takers.items) _ seat.pass.taken (all_sent c.loop-handle.self.senders.items) _ (sent_by lane) taken_is sent_is was.sent (sent_all _ _ _ _ _ _ _ did began.taken began.sent);
            checks = checked_more (checked_by checked c.loop-handle.self.checks.items) _ (checked check) (all_sent c.loop-handle.self.senders.items) _ (sent_by lane) checked_is sent_is was.checks (checked_all _ _ _ _ _ _ _ did began.sent began.unused);
          };
      lanes = subst (λ (l : List LaneIn). EachBack (before ++ handle ∷ []) l) (sym senders.items) (back_push before c.loop-handle.self.senders.items handle lane h.lanes kept.1);
      takers_fit = ((let step = ap length steps in let more = takers.len in let old = h.takers_fit.0 in omega arith), takers.capacity ∙ h.takers_fit.1);
      senders_fit = ((let step = ap length steps in let more = senders.len in let old = h.senders_fit.0 in omega arith), senders.capacity ∙ h.senders_fit.1);
      checks_fit = ((let step = ap length steps in let more = checks.len in let old = h.checks_fit.0 in omega arith), checks.capacity ∙ h.checks_fit.1);
      rest = ap (λ (d : Caller g.row.C.Denot). record d { takers = c.push_reserved.new.self; senders = c.push_reserved-in-loop-handle.new.self; checks = c.push_reserved-in-loop-handle-2.new.self }) h.rest;
    }

pub returns : goal.returns
returns g c =
    let h = c.loop-handle.invariant in
    let before = c.loop-handle.yielded in
    let over : into_iter_items c.loop-handle.handle-iterator ≡ [] = nil_from_length (into_iter_items c.loop-handle.handle-iterator) (sym h.sized ∙ c.in-None.ensures.steps.0) in
    let whole : c.args.self.now.verifiers.items ≡ before = h.split ∙ ap (λ (l : List (PromisedHandle (Verifier g.row.C.Denot) (StartFacts g.row.C.Denot))). before ++ l) over ∙ append-nil before in
    record {
      joined = subst (λ (l : List (PromisedHandle (Verifier g.row.C.Denot) (StartFacts g.row.C.Denot))). AreJoined g.C.Check.checked l c.loop-handle.self) (sym whole) h.joined;
      lanes = subst (λ (l : List (PromisedHandle (Verifier g.row.C.Denot) (StartFacts g.row.C.Denot))). EachBack l c.loop-handle.self.senders.items) (sym whole) h.lanes;
      rest = h.rest;
    }
