use Rattle.std.proofs.Common.{◌≡◌}
use Rattle.ix_stage_tests.proofs.queue.taker.Given as goal

abbrev pub invariant-loop : goal.invariant-loop
invariant-loop g l = l.seat.table ≡ l.fn.seat.table
