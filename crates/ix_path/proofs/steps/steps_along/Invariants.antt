use Rattle.std.proofs.Common.{◌≡◌, ◌++◌, drop}
use Rattle.ix_path.specs.Resolution.{segments_in}
use Rattle.ix_path.specs.Along.{path_of}
use Rattle.ix_path.specs.Steps.{resolved_path}
use Rattle.ix_path.proofs.steps.steps_along.Given as goal

abbrev pub invariant-loop-step : goal.invariant-loop-step
invariant-loop-step l =
    path_of l.path.items ++ resolved_path (drop l.step-index l.steps) (segments_in l.rest) ≡ resolved_path l.steps (segments_in l.segments)
