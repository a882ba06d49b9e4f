use Rattle.std.proofs.Common.{◌≤◌, ◌-◌}
use Rattle.ix_receive.specs.Base.{store_of}
use Rattle.ix_receive.specs.Passing.{IsPassing}
use Rattle.ix_receive.proofs.passing.pass_all.Given as goal

abbrev pub invariant-loop-link : goal.invariant-loop-link
invariant-loop-link l = (l.fn.t.visits ≤ l.t.visits) × IsPassing l.asked.job.now l.asked.allowed (store_of l.sections) l.t

abbrev pub decreases-loop-link : goal.decreases-loop-link
decreases-loop-link l = l.asked.job.now.limit - l.t.visits
