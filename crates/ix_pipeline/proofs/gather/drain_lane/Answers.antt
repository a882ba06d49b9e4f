use Rattle.std.proofs.Common.{refl, ◌++◌, sym, ◌∙◌}
use Rattle.ix_stages.specs.Lanes.{received_by}
use Rattle.ix_stages.proofs.LaneEnds.{same_again}
use Rattle.ix_pipeline.proofs.Room.{done_room}
use Rattle.ix_pipeline.proofs.Gathering.{inserts_mid, on_same, on_trans, lane_same, same_trans}
use Rattle.ix_pipeline.proofs.gather.drain_lane.Goals as goal

pub loop-init : goal.loop-init
loop-init g c = record {
  lane = c.requires.lane;
  same = (((refl, refl, refl, refl), refl), ((refl, refl, refl, refl), refl), refl);
  collected = record { on = on_same g.S.Sink.calls g.S.Sink.guarantee c.args.collector.now c.args.sinks.now c.requires.collector; collected = λ store jobs before after h. h };
}

pub receive-requires : goal.receive-requires
receive-requires g c = record {
  sinks = c.loop.invariant.collected.on.sinks;
  may = c.loop.invariant.collected.on.may;
  room = done_room c.loop.collector c.in-Some-lane_rest.item (c.loop.invariant.collected.on.done c.requires.done);
}

pub loop-preserved : goal.loop-preserved
loop-preserved g c =
    let h = c.loop.invariant in
    let same = c.lane_rest.ensures.same in
    record {
      lane = lane_same c.loop.sender c.lane_rest.new.sender c.loop.receiver c.lane_rest.new.receiver same.0 same.1 h.lane;
      same = (
        same_again c.args.sender.now c.loop.sender c.lane_rest.new.sender h.same.0 same.0,
        same_trans c.args.receiver.now c.loop.receiver c.lane_rest.new.receiver h.same.1 same.1,
        same.2 ∙ h.same.2,
      );
      collected = record {
        on = (let e = c.receive.ensures in
            on_trans g.S.Sink.calls g.S.Sink.guarantee c.args.collector.now c.loop.collector c.receive.new.self c.args.sinks.now c.loop.sinks c.receive.new.sinks h.collected.on
            (record { sinks = e.sinks ∙ h.collected.on.sinks ∙ sym e.jobs; jobs = e.jobs; may = e.may; kept = e.kept; done = e.done }));
        collected = λ store jobs before after begun.
            c.receive.ensures.collected store jobs (before ++ received_by c.loop.receiver ++ after) (before ++ received_by c.lane_rest.new.receiver ++ after)
            (inserts_mid before (received_by c.loop.receiver) (received_by c.lane_rest.new.receiver) after c.in-Some-lane_rest.item c.in-Some-lane_rest.ensures.some) (h.collected.collected store jobs before after begun);
      };
    }
