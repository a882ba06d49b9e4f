-- Why a call fails.
use Rattle.std.specs.Prelude.{◌≡◌, ◌≢◌, ◌⊎◌, ℕ, List, [], ◌∷◌, Ok, Err, codes}
use Rattle.ix_walk.specs.JobMeaning.{JobMeaning}
use Rattle.ix_walk.specs.declared.fault.JobFault.{JobFault}
use Rattle.ix_walk.specs.declared.fault.JobFault.TheVariants as job
use Rattle.ix_sections.specs.declared.fault.CarFault.{CarFault}
use Rattle.ix_sections.specs.Reading.{blocks_of}
use Rattle.ix_sections.specs.Gives as car
use Rattle.ix_jobs.specs.declared.fault.JobsFault.{JobsFault}
use Rattle.ix_jobs.specs.Jobs.{jobs_of}
use Rattle.ix_jobs.specs.Gives as jobs
use Rattle.ix_selector_json.specs.declared.fault.NotationFault.{NotationFault}
use Rattle.ix_selector_json.specs.declared.fault.NotationFault.TheVariants as notation
use Rattle.ix_selector_json.specs.FaultWords as selectors
use Rattle.ix_selector_json.specs.Notation.{IsJsonRefused}
use Rattle.ix_run.specs.declared.fault.RunFault.TheVariants.{Root, Car, Jobs}
use Rattle.ix_run.specs.FaultLine.{line_of}
use Rattle.ix_api.specs.declared.job_parts.PartsFault.{PartsFault}
use Rattle.ix_api.specs.declared.job_parts.PartsFault.TheVariants as parts
use Rattle.ix_api.specs.JobParts.{job_of_parts}
use Rattle.ix_api.specs.declared.failure.Failure.{Failure}
use Rattle.ix_api.specs.declared.failure.Failure.TheVariants.{Memory, Refused}

-- rejected with this line, or memory ran out
abbrev pub IsFailureBy : List ℕ → Failure → Type 0
IsFailureBy line Memory = Unit {0}
IsFailureBy line (Refused told) = told.items ≡ line

-- the first fault of a CARv1 file, in the program's words, or memory ran out
abbrev pub IsStoreFailure : List ℕ → Failure → Type 0
IsStoreFailure file Memory = Unit {0}
IsStoreFailure file (Refused told) =
    (fault : CarFault) × car.IsFaultOf file fault (blocks_of file) × (told.items ≡ line_of (Car fault))

-- these jobs are none, or more than one
abbrev pub IsNotOneFailure : List JobMeaning → Failure → Type 0
IsNotOneFailure list Memory = Unit {0}
IsNotOneFailure list (Refused told) =
    ((job : JobMeaning) → list ≢ job ∷ []) × (told.items ≡ codes "jobs: not one job")

-- the first fault of a job file, in the program's words
abbrev pub IsFaultyLine : List ℕ → List ℕ → Type 0
IsFaultyLine file told = (fault : JobsFault) × jobs.IsFaultOf fault (jobs_of file) × (told ≡ line_of (Jobs fault))

abbrev pub IsJobFault : List ℕ → Failure → Type 0
IsJobFault file Memory = Unit {0}
IsJobFault file (Refused told) = IsFaultyLine file told.items

-- or it has no job, or more than one; or memory ran out
abbrev pub IsJobFailure : List ℕ → Failure → Type 0
IsJobFailure file failure =
    IsJobFault file failure ⊎ ((list : List JobMeaning) × (jobs_of file ≡ Ok list) × IsNotOneFailure list failure)

-- the error of a text that is not the JSON of a selector, as the program prints it, or memory ran out
abbrev pub IsSelectorFailure : List ℕ → Failure → Type 0
IsSelectorFailure text Memory = Unit {0}
IsSelectorFailure text (Refused told) =
    (fault : NotationFault) × IsJsonRefused text fault × (told.items ≡ selectors.line_of fault)

-- the words for a limit or a number of roots that no job has
abbrev pub job_words : JobFault → List ℕ
job_words job.Name = codes "job: name"
job_words job.LimitZero = codes "job: limit"
job_words job.LimitTooLarge = codes "job: limit"
job_words job.NoRoot = codes "job: no root"
job_words job.TooManyRoots = codes "job: too many roots"

-- the line for why parts make no job: that of the program where it rejects the same
abbrev pub parts_line : PartsFault → List ℕ
parts_line (parts.Root fault) = line_of (Root fault)
parts_line (parts.Block fault) = selectors.line_of (notation.Block fault)
parts_line (parts.Selector fault) = selectors.line_of (notation.Selector fault)
parts_line (parts.Job fault) = job_words fault
parts_line parts.Memory = codes "memory"

-- the first fault of the parts of a job, or memory ran out
abbrev pub IsPartsFailure : List ℕ → List ℕ → ℕ → Failure → Type 0
IsPartsFailure roots selector limit Memory = Unit {0}
IsPartsFailure roots selector limit (Refused told) =
    (fault : PartsFault) × (job_of_parts roots selector limit ≡ Err fault) × (told.items ≡ parts_line fault)
