-- The result of a call for one line.
use Rattle.std.specs.Prelude.{◌≡◌, ℕ, List, Option, String, Result, IfOk}
use Rattle.std.specs.BTreeSet.{BTreeSet}
use Rattle.ix_walk.specs.JobMeaning.{JobMeaning}
use Rattle.ix_jobs.specs.declared.fault.JobErrorKind.{JobErrorKind}
use Rattle.ix_jobs.specs.Jobs.{jobs_up_to}
use Rattle.ix_jobs.specs.Named.{HasNames}
use Rattle.ix_job_errors.specs.Faults.{fault_after, jobs_after}

-- the fault of a line after lines with these jobs, and the names with that of its own job
pub record IsAfter {Y : Type 0} (greatest : ℕ) (before : List JobMeaning) (line : List ℕ) (names : BTreeSet (String Y)) (fault : Option JobErrorKind) : Type 0 where
  pub is : fault ≡ fault_after before (jobs_up_to greatest 1000 line)
  pub named : HasNames names (jobs_after before (jobs_up_to greatest 1000 line))

-- the result of a call for a line, and the names after it, whatever the jobs of the lines before
abbrev pub AnswersAfter : {Y E : Type 0} → ℕ → BTreeSet (String Y) → List ℕ → BTreeSet (String Y) → Result (Option JobErrorKind) E → Type 0
AnswersAfter greatest old line new answer = (before : List JobMeaning) → HasNames old before → IfOk answer (IsAfter greatest before line new)
