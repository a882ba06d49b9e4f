use Rattle.ix_pipeline.specs.Caller.{Stops}
use Rattle.ix_pipeline.proofs.caller.Caller.stop_unfed.Given as goal

abbrev pub invariant-loop : goal.invariant-loop
invariant-loop g l = Stops l.fn.self l.self
