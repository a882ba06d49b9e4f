use Rattle.ix_stage_tests.specs.Walkers.{CanGoOn}
use Rattle.ix_stage_tests.proofs.queue.put_job.Given as goal

abbrev pub invariant-loop : goal.invariant-loop
invariant-loop g l = CanGoOn l.queue l.seat l.walk
