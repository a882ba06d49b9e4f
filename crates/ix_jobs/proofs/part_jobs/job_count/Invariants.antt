use Rattle.std.proofs.Common.{◌≡◌, ◌+◌, ◌≤◌, ◌==◌, length}
use Rattle.std.specs.List.{slice_split}
use Rattle.ix_jobs.specs.Parts.{job_lines_from, job_lines}
use Rattle.ix_jobs.proofs.part_jobs.job_count.Given as goal

abbrev pub invariant-loop-rest : goal.invariant-loop-rest
invariant-loop-rest l = record {
  within : l.count + length l.rest ≤ length l.bytes;
  goes_on : l.count + length (job_lines_from 1 (slice_split (λ b. b == 10) l.rest)) ≡ length (job_lines l.bytes);
}

abbrev pub decreases-loop-rest : goal.decreases-loop-rest
decreases-loop-rest l = length l.rest
