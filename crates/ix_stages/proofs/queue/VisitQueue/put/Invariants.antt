use Rattle.std.proofs.Common.{◌≡◌}
use Rattle.ix_stages.proofs.queue.VisitQueue.put.Given as goal

abbrev pub invariant-loop : goal.invariant-loop
invariant-loop g l = (l.seat ≡ l.fn.seat) × (l.item ≡ l.fn.item)
