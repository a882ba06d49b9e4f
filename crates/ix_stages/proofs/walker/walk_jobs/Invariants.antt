use Rattle.std.proofs.Common.{◌≡◌}
use Rattle.ix_stages.proofs.walker.walk_jobs.Given as goal

abbrev pub invariant-loop : goal.invariant-loop
invariant-loop g l = l.claimer.of ≡ l.shared.claims.now
