use Rattle.std.proofs.Common.{◌≡◌}
use Rattle.ix_stage_tests.proofs.lanes.claim_all.Given as goal

abbrev pub invariant-loop : goal.invariant-loop
invariant-loop l = l.seat.of ≡ l.claims
