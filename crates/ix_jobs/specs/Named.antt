-- Jobs and the set of their names.
use Rattle.std.specs.Prelude.{◌≡◌, ℕ, List, String}
use Rattle.std.specs.BTreeSet.{BTreeSet, contains_text}
use Rattle.ix_walk.specs.JobMeaning.{JobMeaning}
use Rattle.ix_jobs.specs.Jobs.{is_taken}

-- a set of names beside the jobs that have them
pub record HasNames {Y : Type 0} (names : BTreeSet (String Y)) (jobs : List JobMeaning) : Type 0 where
  -- a name is in the set exactly where a job has it
  pub names_are : (name : List ℕ) → contains_text names name ≡ is_taken jobs name
