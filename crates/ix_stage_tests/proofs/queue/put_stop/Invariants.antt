use Rattle.std.proofs.Common.{◌≡◌}
use Rattle.ix_stage_tests.proofs.queue.put_stop.Given as goal

abbrev pub invariant-loop : goal.invariant-loop
invariant-loop g l = l.stop.table ≡ l.fn.stop.table
