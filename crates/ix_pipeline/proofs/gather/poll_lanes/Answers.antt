use Rattle.std.proofs.Common.{arith, rules, refl, ◌≡◌, ◌<◌, ◌++◌, ◌∷◌, [], length, get_or, ap, sym, ◌∙◌, length-set}
use Rattle.std.specs.Prelude.{cond}
use Rattle.ix_stages.specs.declared.lanes.LaneOut.{LaneOut}
use Rattle.ix_stages.specs.Lanes.{received_by}
use Rattle.ix_pipeline.proofs.Gathering.{bool_one, one_at_most}
use Rattle.ix_pipeline.proofs.Rounds.{given_as, given_none, given_more, gives_none, gives_one}
use Rattle.ix_pipeline.proofs.gather.poll_lanes.Goals.{in-Some, in_default}
use Rattle.ix_pipeline.proofs.gather.poll_lanes.Goals as goal

pub loop-i-init : goal.loop-i-init
loop-i-init g c = record {
  size = refl;
  few = (omega arith, omega arith);
  given = given_none g.S.Sink.calls g.S.Sink.guarantee c.args.lanes.now c.args.collector.now c.args.sinks.now c.requires;
}

pub loop-i-preserved : goal.loop-i-preserved
loop-i-preserved g c =
    let h = c.loop-i.invariant in
    let lane = get_or c.loop-i.lanes c.loop-i.i c.index-lanes-i.result in
    let at : lane ≡ get_or c.loop-i.lanes c.loop-i.i lane = ap (λ (l : LaneOut). get_or c.loop-i.lanes c.loop-i.i l) c.index-lanes-i.is in
    let lt : c.loop-i.i < length c.loop-i.lanes = search rules in
    let size = length-set c.loop-i.lanes c.loop-i.i c.recv_if_room.new.lane ∙ h.size in
    elim c.match-recv_if_room.branch [
      | in-Some w ↦
          let e = w.receive.ensures in
          let on = h.given.collected.on in
          let item = w.in-Some.item in
          let one : w.from-ended_lanes.result ≡ cond w.is_last.result 1 0 = w.from-ended_lanes.ensures ∙ bool_one w.is_last.result in
          let most = one_at_most w.is_last.result in
          let received : received_by c.recv_if_room.new.lane ≡ received_by lane ++ item ∷ [] = search rules in
          let gives = gives_one g.S.Sink.calls g.S.Sink.guarantee lane c.recv_if_room.new.lane item w.from-ended_lanes.result c.loop-i.collector w.receive.new.self c.loop-i.sinks w.receive.new.sinks c.recv_if_room.ensures.same received
          (one ∙ w.is_last.ensures) (record { sinks = e.sinks ∙ on.sinks ∙ sym e.jobs; jobs = e.jobs; may = e.may; kept = e.kept; done = e.done }) e.collected in
          record {
            size = size;
            few = (let few = h.few.0 in let is = w.items-is in omega (arith, few, is), let few = h.few.1 in let is = w.ended_lanes-is in omega (arith, few, is, one, most));
            given = given_as g.S.Sink.calls g.S.Sink.guarantee c.args.lanes.now _ _ c.match-recv_if_room.items _ c.match-recv_if_room.ended_lanes c.args.collector.now _ c.match-recv_if_room.collector c.args.sinks.now _ c.match-recv_if_room.sinks
                w.items-is w.ended_lanes-is w.collector-is w.sinks-is
                (given_more g.S.Sink.calls g.S.Sink.guarantee c.args.lanes.now c.loop-i.lanes c.loop-i.i lane c.recv_if_room.new.lane c.loop-i.items c.loop-i.ended_lanes 1 w.from-ended_lanes.result c.args.collector.now c.loop-i.collector w.receive.new.self
                c.args.sinks.now c.loop-i.sinks w.receive.new.sinks h.given at lt gives);
          }
      | in_default w ↦
          let on = h.given.collected.on in
          let same : received_by c.recv_if_room.new.lane ≡ received_by lane = search rules in
          let gives = gives_none g.S.Sink.calls g.S.Sink.guarantee lane c.recv_if_room.new.lane c.loop-i.collector c.loop-i.sinks (record { sinks = on.sinks; may = on.may }) c.recv_if_room.ensures.same same in
          record {
            size = size;
            few = (let few = h.few.0 in let is = w.items-is in omega (arith, few, is), let few = h.few.1 in let is = w.ended_lanes-is in omega (arith, few, is));
            given = given_as g.S.Sink.calls g.S.Sink.guarantee c.args.lanes.now _ _ c.match-recv_if_room.items _ c.match-recv_if_room.ended_lanes c.args.collector.now _ c.match-recv_if_room.collector c.args.sinks.now _ c.match-recv_if_room.sinks
                (let is = w.items-is in omega (arith, is)) (let is = w.ended_lanes-is in omega (arith, is)) w.collector-is w.sinks-is
                (given_more g.S.Sink.calls g.S.Sink.guarantee c.args.lanes.now c.loop-i.lanes c.loop-i.i lane c.recv_if_room.new.lane c.loop-i.items c.loop-i.ended_lanes 0 0 c.args.collector.now c.loop-i.collector c.loop-i.collector
                c.args.sinks.now c.loop-i.sinks c.loop-i.sinks h.given at lt gives);
          }
    ]
