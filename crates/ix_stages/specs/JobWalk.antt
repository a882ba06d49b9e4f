-- What the walk of a job has still to return.
use Rattle.ix_walk.specs.WalkLeft.{WalkLeft}
use Rattle.ix_stages.specs.declared.job_walk.WalkKind.{WalkKind}
use Rattle.ix_stages.specs.declared.job_walk.WalkKind.TheVariants.{Blocks, Table}

-- the same in both ways
abbrev pub left_of_kind : WalkKind → WalkLeft
left_of_kind (Blocks w) = w
left_of_kind (Table w) = w
