use Rattle.std.proofs.Common.{◌≡◌, ◌+◌, ◌≤◌, ◌==◌, length}
use Rattle.std.specs.List.{slice_split}
use Rattle.ix_jobs.specs.Jobs.{jobs_from, jobs_up_to}
use Rattle.ix_jobs.proofs.jobs.read_jobs_up_to.Given as goal

abbrev pub invariant-loop-rest : goal.invariant-loop-rest
invariant-loop-rest l = record {
  within : l.number + length l.rest ≤ length l.bytes;
  goes_on : jobs_from l.greatest 1000 (l.number + 1) l.jobs (slice_split (λ b. b == 10) l.rest) ≡ jobs_up_to l.greatest 1000 l.bytes;
}

abbrev pub decreases-loop-rest : goal.decreases-loop-rest
decreases-loop-rest l = length l.rest
