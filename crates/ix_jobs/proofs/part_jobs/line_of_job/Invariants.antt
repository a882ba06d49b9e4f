use Rattle.std.proofs.Common.{◌≡◌, ◌+◌, ◌≤◌, ◌==◌, length, get_or}
use Rattle.std.specs.List.{slice_split}
use Rattle.ix_jobs.specs.Parts.{job_lines_from, job_lines}
use Rattle.ix_jobs.proofs.part_jobs.line_of_job.Given as goal

abbrev pub invariant-loop-rest : goal.invariant-loop-rest
invariant-loop-rest l = record {
  within : l.number + length l.rest ≤ length l.bytes;
  goes_on : get_or (job_lines_from (l.number + 1) (slice_split (λ b. b == 10) l.rest)) l.before 0 ≡ get_or (job_lines l.bytes) l.job 0;
}

abbrev pub decreases-loop-rest : goal.decreases-loop-rest
decreases-loop-rest l = length l.rest
