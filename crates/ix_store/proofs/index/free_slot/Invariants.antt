use Rattle.std.proofs.Common.{take}
use Rattle.ix_store.specs.Index.{AreTaken, window_of}
use Rattle.ix_store.proofs.index.free_slot.Given as goal

abbrev pub invariant-loop-step : goal.invariant-loop-step
invariant-loop-step l = AreTaken (take l.step (window_of l.slots l.hash))
