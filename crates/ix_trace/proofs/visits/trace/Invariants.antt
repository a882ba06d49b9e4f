use Rattle.std.proofs.Common.{◌≡◌, ℕ, drop}
use Rattle.ix_walk.specs.Visits.{visits_of}
use Rattle.ix_trace.specs.Trace.{AreKept, ArePaths}
use Rattle.ix_trace.proofs.visits.trace.Given as goal

abbrev pub invariant-loop-item : goal.invariant-loop-item
invariant-loop-item l =
    AreKept l.store l.tracer.levels.items × ((k : ℕ) × (l.item-iterator.visits ≡ drop k (visits_of l.store 0 l.job))) × ArePaths l.store l.job l.numbers l.paths.items
