use Rattle.ix_pipeline.specs.Caller.{IsSeatOf}
use Rattle.ix_pipeline.proofs.caller.send_stops.Given as goal

abbrev pub invariant-loop-put : goal.invariant-loop-put
invariant-loop-put g l = IsSeatOf l.fn.seat l.seat
