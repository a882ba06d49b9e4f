use Rattle.std.proofs.Common.{◌≡◌, ◌++◌, length, map, reverse}
use Rattle.ix_selector.specs.Residual.{step_of}
use Rattle.ix_path.specs.Path.{segments_view}
use Rattle.ix_trace.specs.Links.{steps_to}
use Rattle.ix_trace.specs.Segments.{segments_of}
use Rattle.ix_trace.proofs.segments.push_segments.Given as goal

abbrev pub invariant-loop-step : goal.invariant-loop-step
invariant-loop-step l = segments_view l.segments ++ segments_of (map step_of (reverse l.back.items)) ≡ segments_view l.initial.segments ++ segments_of (steps_to l.fn.steps l.fn.node)

abbrev pub decreases-loop-step : goal.decreases-loop-step
decreases-loop-step l = length l.back.items
