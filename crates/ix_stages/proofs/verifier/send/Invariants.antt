use Rattle.std.proofs.Common.{◌≡◌}
use Rattle.ix_stages.specs.Lanes.{sent_by, SameIn}
use Rattle.ix_stages.proofs.verifier.send.Given as goal

abbrev pub invariant-loop : goal.invariant-loop
invariant-loop g l = SameIn l.fn.lane l.lane × (sent_by l.lane ≡ sent_by l.fn.lane) × (l.item ≡ l.fn.item)
