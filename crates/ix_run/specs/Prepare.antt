-- What is read from the files of a run, and why they are rejected.
use Rattle.std.specs.Prelude.{◌≡◌, ℕ, List, Result, Ok}
use Rattle.std.specs.Arc.{arc_value}
use Rattle.std.specs.Global.{Global, Vec}
use Rattle.std.specs.declared.sync.Arc.{Arc}
use Rattle.ix_store.specs.Store.{Blocks}
use Rattle.ix_walk.specs.JobMeaning.{JobMeaning, AreFew}
use Rattle.ix_sections.specs.Reading.{blocks_of}
use Rattle.ix_sections.specs.Gives as car
use Rattle.ix_jobs.specs.Gives as jobs
use Rattle.ix_jobs.specs.declared.fault.JobErrorKind.{JobErrorKind}
use Rattle.ix_run.specs.declared.fault.RunFault.{RunFault}
use Rattle.ix_run.specs.declared.fault.RunFault.TheVariants.{Hex, Root, Car, Jobs, Write, Memory}

-- the blocks of this file, and the jobs that are meant, of which there are at most 1,000
abbrev pub IsLoaded : List ℕ → Result (List JobMeaning) (JobErrorKind × ℕ) → Arc Blocks Global × Arc (Vec JobMeaning) Global → Type 0
IsLoaded file meant loaded =
    (blocks_of file ≡ Ok (arc_value loaded.0)) × (meant ≡ Ok (arc_value loaded.1).items) × AreFew (arc_value loaded.1).items

-- The first fault of the CARv1 file; or, where that is good, that of the job file, of whose jobs this is meant; or memory ran out.
abbrev pub IsFilesRefusal : List ℕ → Result (List JobMeaning) (JobErrorKind × ℕ) → RunFault → Type 0
IsFilesRefusal file meant (Car fault) = car.IsFaultOf file fault (blocks_of file)
IsFilesRefusal file meant (Jobs fault) = ((store : Blocks) × (blocks_of file ≡ Ok store)) × jobs.IsFaultOf fault meant
IsFilesRefusal file meant Memory = Unit {0}
IsFilesRefusal file meant Hex = ⊥
IsFilesRefusal file meant (Root fault) = ⊥
IsFilesRefusal file meant (Write number) = ⊥

-- the first fault of a job file, of whose jobs this is meant; or memory ran out
abbrev pub IsJobsRefusal : Result (List JobMeaning) (JobErrorKind × ℕ) → RunFault → Type 0
IsJobsRefusal meant (Jobs fault) = jobs.IsFaultOf fault meant
IsJobsRefusal meant Memory = Unit {0}
IsJobsRefusal meant (Car fault) = ⊥
IsJobsRefusal meant Hex = ⊥
IsJobsRefusal meant (Root fault) = ⊥
IsJobsRefusal meant (Write number) = ⊥
