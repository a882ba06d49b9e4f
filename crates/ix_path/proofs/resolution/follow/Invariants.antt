use Rattle.std.proofs.Common.{ℕ, List, drop}
use Rattle.std.specs.Prelude.{Result}
use Rattle.ix_cbor.specs.Data.{Data}
use Rattle.ix_path.specs.declared.step.PathStep.{PathStep}
use Rattle.ix_path.specs.declared.obstacle.Obstacle.{Obstacle}
use Rattle.ix_path.specs.Resolution.{followed, resolution, GoesBy, segments_in}
use Rattle.ix_path.proofs.resolution.follow.Given as goal

-- who goes on from here has gone so from the start
abbrev pub invariant-loop-segment : goal.invariant-loop-segment
invariant-loop-segment l =
    (new : List (List ℕ)) (after : List PathStep) (end : Result Data Obstacle) → GoesBy l.blocks.items new l.steps.items after end (followed l.store 128 (segments_in (drop l.segment-index l.segments)) l.node)
    → GoesBy l.fn.blocks.items new l.fn.steps.items after end (resolution l.store 128 (segments_in l.segments) l.root)
