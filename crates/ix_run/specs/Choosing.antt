-- Which jobs of a job file are run, and how they are walked.
use Rattle.std.specs.Prelude.{◌≡◌, ℕ, List, Option, Some, None, Result, Ok}
use Rattle.ix_walk.specs.JobMeaning.{JobMeaning, walked}
use Rattle.ix_jobs.specs.declared.fault.JobErrorKind.{JobErrorKind}
use Rattle.ix_jobs.specs.declared.part.Part.{Part}
use Rattle.ix_jobs.specs.Jobs.{jobs_up_to}
use Rattle.ix_jobs.specs.Parts.{part_jobs_up_to}
use Rattle.ix_run.specs.declared.loading.JobChoice.{JobChoice}

-- the jobs of a job file, or of a part of it, with limits up to the greatest
abbrev pub jobs_in : ℕ → Option Part → List ℕ → Result (List JobMeaning) (JobErrorKind × ℕ)
jobs_in greatest None b = jobs_up_to greatest 1000 b
jobs_in greatest (Some part) b = part_jobs_up_to greatest part.number part.of b

-- these are the jobs that are run of a file
abbrev pub AreChosen : JobChoice → List ℕ → List JobMeaning → Type 0
AreChosen choice b jobs = (all : List JobMeaning) × (jobs_in choice.greatest_limit choice.part b ≡ Ok all) × (jobs ≡ walked choice.once all)
