use Rattle.std.proofs.Common.{◌≡◌, ◌+◌, ◌≤◌, ◌==◌, length}
use Rattle.std.specs.List.{slice_split}
use Rattle.ix_jobs.specs.HaveList.{cids_from, cids_of}
use Rattle.ix_jobs.proofs.list.listed_cids.Given as goal

abbrev pub invariant-loop-rest : goal.invariant-loop-rest
invariant-loop-rest l = record {
  within : l.number + length l.rest ≤ length l.bytes;
  goes_on : cids_from (l.number + 1) l.cids.items (slice_split (λ b. b == 10) l.rest) ≡ cids_of l.bytes;
}

abbrev pub decreases-loop-rest : goal.decreases-loop-rest
decreases-loop-rest l = length l.rest
