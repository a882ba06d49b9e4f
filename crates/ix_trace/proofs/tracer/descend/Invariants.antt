use Rattle.ix_trace.specs.Trace.{AreKept, GoesDown}
use Rattle.ix_trace.proofs.tracer.descend.Given as goal

abbrev pub invariant-loop-level : goal.invariant-loop-level
invariant-loop-level l = AreKept l.fn.store l.levels.items × GoesDown l.fn.store l.fn.start.cid l.place.cid l.fn.segments l.segments
