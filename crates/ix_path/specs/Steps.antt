-- The steps of a resolved path.
use Rattle.std.specs.Prelude.{ℕ, List, [], ◌∷◌}
use Rattle.ix_path.specs.declared.step.PathStep.{PathStep}
use Rattle.ix_path.specs.declared.step.PathStep.TheVariants.{Key, Index}
use Rattle.ix_selector.specs.Enters.{Step, key, nth, Path}

-- a key is its segment, and an index is the number that its segment was resolved to
abbrev pub step_along : PathStep → List ℕ → Step
step_along Key segment = key segment
step_along (Index n) segment = nth n

-- the steps to where segments were resolved, as far as they were
abbrev pub resolved_path : List PathStep → List (List ℕ) → Path
resolved_path [] segments = []
resolved_path (t ∷ ts) [] = []
resolved_path (t ∷ ts) (s ∷ ss) = step_along t s ∷ resolved_path ts ss
