use Rattle.std.proofs.Common.{◌≡◌, take}
use Rattle.ix_jobs.proofs.worded_job.clones.Given as goal

abbrev pub invariant-loop-cid : goal.invariant-loop-cid
invariant-loop-cid l = l.clones.items ≡ take l.cid-index l.cids
