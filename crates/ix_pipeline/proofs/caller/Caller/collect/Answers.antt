use Rattle.std.proofs.Common.{rules, List, refl, sym, subst, ◌∙◌}
use Rattle.ix_stages.specs.declared.verdicted.Verdicted.{Verdicted}
use Rattle.ix_pipeline.specs.Collecting.{HasCollected}
use Rattle.ix_pipeline.proofs.Callers.{gathers_none, gathers_more}
use Rattle.ix_pipeline.proofs.caller.Caller.collect.Goals as goal

pub loop-init : goal.loop-init
loop-init g c =
    let law = c.unused_has_collected_nothing.ensures in
    let collector = c.args.self.now.collector in
    let sinks = c.args.sinks.now in
    let fresh = c.requires.sinks in
    let unused = c.requires.unused in
    gathers_none g.S.Sink.calls g.S.Sink.guarantee c.args.self.now sinks (
      record { sinks = fresh.sized; may = law.may collector sinks fresh.sized unused.0 fresh.fresh },
      subst (λ (got : List Verdicted). HasCollected g.S.Sink.calls got collector sinks) (sym unused.1) (law.collected collector sinks fresh.sized unused.0 fresh.fresh),
    )

pub loop-preserved : goal.loop-preserved
loop-preserved g c =
    let e = c.poll_lanes-received.ensures in
    gathers_more g.S.Sink.calls g.S.Sink.guarantee c.args.self.now c.loop.self _ c.as_mut_slice.result.now c.poll_lanes-received.new.lanes c.args.sinks.now c.loop.sinks c.poll_lanes-received.new.sinks
    c.loop.invariant (search rules) c.as_mut_slice.ensures.value (c.poll_lanes-received.auto.lanes ∙ c.as_mut_slice.ensures.len) refl e.lanes e.collected
