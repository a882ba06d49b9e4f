use Rattle.std.proofs.Common.{◌≡◌}
use Rattle.ix_stages.proofs.queue.VisitQueue.take.Given as goal

abbrev pub invariant-loop : goal.invariant-loop
invariant-loop g l = (l.taker.table ≡ l.fn.taker.table) × (l.taker.pass ≡ l.fn.taker.pass)
