use Rattle.std.proofs.Common.{◌≡◌, ◌++◌, length, map, reverse}
use Rattle.ix_selector.specs.Residual.{step_of}
use Rattle.ix_trace.specs.Links.{steps_to}
use Rattle.ix_trace.proofs.segments.steps_back.Given as goal

abbrev pub invariant-loop-from : goal.invariant-loop-from
invariant-loop-from l = steps_to l.older l.node ++ map step_of (reverse l.back.items) ≡ steps_to l.fn.steps l.fn.node

abbrev pub decreases-loop-from : goal.decreases-loop-from
decreases-loop-from l = length l.older
