-- The segments of steps.
use Rattle.std.specs.Prelude.{◌≡◌, ℕ, List, map, reverse, decimal}
use Rattle.ix_selector.specs.Enters.{Step, key, nth, Path}
use Rattle.ix_selector.specs.declared.step.Step.{Step as RustStep}
use Rattle.ix_selector.specs.Residual.{step_of}

-- the segment of a step: a key, or an index in decimal
abbrev pub segment_of : Step → List ℕ
segment_of (key k) = k
segment_of (nth n) = decimal n

-- those of the steps of a path
abbrev pub segments_of : Path → List (List ℕ)
segments_of p = map segment_of p

-- these are the steps of a path, the last one first
abbrev pub StepsBack : List RustStep → Path → Type 0
StepsBack back p = map step_of (reverse back) ≡ p
