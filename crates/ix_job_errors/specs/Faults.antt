-- The faults of a job file, of each faulty line its first.
use Rattle.std.specs.Prelude.{◌≡◌, ℕ, ◌+◌, ◌==◌, List, [], ◌∷◌, ◌++◌, filter, nat_lt, if◌then◌else◌, Option, Some, None, Result, Ok, Err}
use Rattle.std.specs.List.{slice_split}
use Rattle.ix_walk.specs.JobMeaning.{JobMeaning}
use Rattle.ix_jobs.specs.declared.fault.JobErrorKind.{JobErrorKind}
use Rattle.ix_jobs.specs.declared.fault.JobErrorKind.TheVariants.{Repeated}
use Rattle.ix_jobs.specs.declared.fault.JobsFault.{JobsFault}
use Rattle.ix_jobs.specs.declared.part.Part.{Part}
use Rattle.ix_jobs.specs.Jobs.{jobs_up_to, is_taken}
use Rattle.ix_jobs.specs.Parts.{part_jobs_up_to}

-- why a line is faulty after lines with these jobs: for what a file of this line alone has, or for its name
abbrev pub fault_after : List JobMeaning → Result (List JobMeaning) (JobErrorKind × ℕ) → Option JobErrorKind
fault_after before (Err fault) = Some fault.0
fault_after before (Ok []) = None
fault_after before (Ok (job ∷ more)) = if is_taken before job.name then Some Repeated else None

-- the jobs with that of the line, if its name isn't taken
abbrev pub jobs_after : List JobMeaning → Result (List JobMeaning) (JobErrorKind × ℕ) → List JobMeaning
jobs_after before (Err fault) = before
jobs_after before (Ok []) = before
jobs_after before (Ok (job ∷ more)) = if is_taken before job.name then before else before ++ job ∷ []

-- what is reported of the line with this number
abbrev pub told : ℕ → Option JobErrorKind → List JobsFault
told line None = []
told line (Some kind) = record { kind = kind; line = line } ∷ []

-- the faults of the lines from a number on, after those with these jobs, with limits up to the greatest
abbrev pub faults_from : ℕ → ℕ → List JobMeaning → List (List ℕ) → List JobsFault
faults_from greatest line before [] = []
faults_from greatest line before (l ∷ ls) =
    told line (fault_after before (jobs_up_to greatest 1000 l)) ++ faults_from greatest (line + 1) (jobs_after before (jobs_up_to greatest 1000 l)) ls

-- those of the lines after one
abbrev pub later : ℕ → List JobsFault → List JobsFault
later first faults = filter (λ f. nat_lt first f.line) faults

-- the faults of the lines after one
abbrev pub faults_after : ℕ → ℕ → List ℕ → List JobsFault
faults_after greatest first b = later first (faults_from greatest 1 [] (slice_split (λ b. b == 10) b))

-- none where there are jobs; else the one for which the file is rejected, and those of the lines after
abbrev pub AreFaultsFor : Result (List JobMeaning) (JobErrorKind × ℕ) → ℕ → List ℕ → List JobsFault → Type 0
AreFaultsFor jobs greatest b [] = (some : List JobMeaning) × (jobs ≡ Ok some)
AreFaultsFor jobs greatest b (f ∷ fs) = (jobs ≡ Err (f.kind, f.line)) × (fs ≡ faults_after greatest f.line b)

-- those of a job file, with limits up to the greatest
abbrev pub AreFaultsUpTo : ℕ → List ℕ → List JobsFault → Type 0
AreFaultsUpTo greatest b = AreFaultsFor (jobs_up_to greatest 1000 b) greatest b

-- those of a part of a job file
abbrev pub AreFaultsOfPart : ℕ → Part → List ℕ → List JobsFault → Type 0
AreFaultsOfPart greatest part b = AreFaultsFor (part_jobs_up_to greatest part.number part.of b) greatest b
