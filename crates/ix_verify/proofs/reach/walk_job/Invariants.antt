use Rattle.ix_verify.specs.Walked.{lack_of}
use Rattle.ix_verify.proofs.Walking.{IsOnWalk}
use Rattle.ix_verify.proofs.reach.walk_job.Given as goal

-- what is reported of the visits so far was noted, and what is absent was counted
abbrev pub invariant-loop-item : goal.invariant-loop-item
invariant-loop-item g l = IsOnWalk (lack_of l.watch) l.watch.store.now l.job l.watch.most l.item-iterator l.initial.skips l.skips l.absent
