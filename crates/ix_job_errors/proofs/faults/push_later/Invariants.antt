use Rattle.std.proofs.Common.{◌≡◌, ◌+◌, ◌≤◌, ◌==◌, ◌++◌, List, length}
use Rattle.std.specs.Prelude.{nat_lt, filter}
use Rattle.std.specs.List.{slice_split}
use Rattle.ix_walk.specs.JobMeaning.{JobMeaning}
use Rattle.ix_jobs.specs.Named.{HasNames}
use Rattle.ix_job_errors.specs.Faults.{faults_from, faults_after}
use Rattle.ix_job_errors.proofs.faults.push_later.Given as goal

abbrev pub invariant-loop-rest : goal.invariant-loop-rest
invariant-loop-rest l = record {
  within : l.number + length l.rest ≤ length l.bytes;
  goes_on : (before : List JobMeaning) × HasNames l.names before
      × (l.faults.items ++ filter (λ f. nat_lt l.first f.line) (faults_from l.greatest (l.number + 1) before (slice_split (λ b. b == 10) l.rest)) ≡ l.initial.faults.items ++ faults_after l.greatest l.first l.bytes);
}

abbrev pub decreases-loop-rest : goal.decreases-loop-rest
decreases-loop-rest l = length l.rest
