use Rattle.std.proofs.Common.{ℕ, ◌-◌, List}
use Rattle.std.specs.Prelude.{Result}
use Rattle.ix_cbor.specs.Data.{Data}
use Rattle.ix_path.specs.declared.obstacle.Obstacle.{Obstacle}
use Rattle.ix_path.specs.Resolution.{crossed, Goes}
use Rattle.ix_path.proofs.resolution.cross.Given as goal

-- who goes on from here has gone so from the start
abbrev pub invariant-loop : goal.invariant-loop
invariant-loop l =
    (new : List (List ℕ)) (end : Result Data Obstacle) → Goes l.blocks.items new end (crossed l.store (128 - l.counter) l.node) → Goes l.initial.blocks.items new end (crossed l.store 128 l.initial.node)
