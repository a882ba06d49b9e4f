-- Which archives have all that their jobs ask for.
use Rattle.std.specs.Prelude.{Bool, not, ◌&&◌}
use Rattle.std.specs.List.{list_any}
use Rattle.ix_walk.specs.JobMeaning.{JobMeaning}
use Rattle.ix_jobs.specs.declared.results.JobResult.{JobResult}
use Rattle.ix_jobs.specs.Report.{is_done}
use Rattle.ix_jobs.specs.Missing.{is_root}

-- The job is done, and no root of it was skipped: each was met, and has its section, unless its CID is an identity.
abbrev pub is_complete : JobMeaning → JobResult → Bool
is_complete job told = is_done told.end && not (list_any (λ skip. is_root job skip.cid) told.skips.items)
