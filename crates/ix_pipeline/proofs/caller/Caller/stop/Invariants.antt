use Rattle.ix_pipeline.specs.Caller.{Gathers}
use Rattle.ix_pipeline.proofs.caller.Caller.stop.Given as goal

abbrev pub invariant-loop : goal.invariant-loop
invariant-loop g l = Gathers g.S.Sink.calls g.S.Sink.guarantee l.fn.self l.self l.initial.sinks l.sinks
