use Rattle.std.proofs.Common.{◌≡◌, ◌+◌, drop}
use Rattle.std.specs.Prelude.{not}
use Rattle.std.specs.List.{position_from}
use Rattle.ix_store.specs.Index.{first_of, window_of}
use Rattle.ix_store.proofs.index.slot_for.Given as goal

abbrev pub invariant-loop-step : goal.invariant-loop-step
invariant-loop-step l =
    position_from not (first_of l.taken l.hash + l.step) (drop l.step (window_of l.taken l.hash))
    ≡ position_from not (first_of l.taken l.hash) (window_of l.taken l.hash)
