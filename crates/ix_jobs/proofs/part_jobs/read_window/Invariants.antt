use Rattle.std.proofs.Common.{◌≡◌, ◌+◌, ◌≤◌, ◌==◌, List, length}
use Rattle.std.specs.List.{slice_split}
use Rattle.ix_walk.specs.JobMeaning.{JobMeaning}
use Rattle.ix_jobs.specs.Jobs.{jobs_from, jobs_up_to}
use Rattle.ix_jobs.specs.PartList.{Keeps}
use Rattle.ix_jobs.proofs.part_jobs.read_window.Given as goal

abbrev pub invariant-loop-rest : goal.invariant-loop-rest
invariant-loop-rest l = record {
  within : l.number + length l.rest ≤ length l.bytes;
  read : (before : List JobMeaning) × Keeps l.start l.end before l.jobs × (jobs_from l.greatest 1000000 (l.number + 1) before (slice_split (λ b. b == 10) l.rest) ≡ jobs_up_to l.greatest 1000000 l.bytes);
}

abbrev pub decreases-loop-rest : goal.decreases-loop-rest
decreases-loop-rest l = length l.rest
