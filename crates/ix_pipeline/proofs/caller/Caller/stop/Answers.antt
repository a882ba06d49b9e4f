use Rattle.std.proofs.Common.{rules, refl, ◌∙◌}
use Rattle.ix_pipeline.proofs.Callers.{gathers_none, gathers_stop, gathers_more}
use Rattle.ix_pipeline.proofs.caller.Caller.stop.Goals as goal

pub loop-init : goal.loop-init
loop-init g c = gathers_none g.S.Sink.calls g.S.Sink.guarantee c.args.self.now c.args.sinks.now c.requires.told

pub loop-preserved : goal.loop-preserved
loop-preserved g c =
    let e = c.poll_lanes-received.ensures in
    gathers_more g.S.Sink.calls g.S.Sink.guarantee c.args.self.now _ _ c.as_mut_slice.result.now c.poll_lanes-received.new.lanes c.args.sinks.now c.loop.sinks c.poll_lanes-received.new.sinks
    (gathers_stop {s = c.send_stops-stops.new.seat} c.loop.invariant c.send_stops-stops.ensures) (search rules) c.as_mut_slice.ensures.value (c.poll_lanes-received.auto.lanes ∙ c.as_mut_slice.ensures.len) refl e.lanes e.collected
