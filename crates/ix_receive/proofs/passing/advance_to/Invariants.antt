use Rattle.std.proofs.Common.{◌≤◌, ◌-◌}
use Rattle.std.specs.List.{Contains}
use Rattle.ix_receive.specs.Base.{store_of}
use Rattle.ix_receive.specs.Traversal.{visited}
use Rattle.ix_receive.specs.Passing.{IsPassing}
use Rattle.ix_receive.proofs.passing.advance_to.Given as goal

abbrev pub invariant-loop-link : goal.invariant-loop-link
invariant-loop-link l = (l.fn.t.visits ≤ l.t.visits) × IsPassing l.asked.job.now l.asked.allowed (store_of l.sections) l.t × (Contains (visited l.t.visits l.asked.job.now (store_of l.sections)) l.cid → ⊥)

abbrev pub decreases-loop-link : goal.decreases-loop-link
decreases-loop-link l = l.asked.job.now.limit - l.t.visits
