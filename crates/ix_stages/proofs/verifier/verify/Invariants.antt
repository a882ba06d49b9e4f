use Rattle.std.proofs.Common.{◌≡◌, All}
use Rattle.ix_stages.specs.Lanes.{sent_by, SameIn}
use Rattle.ix_stages.specs.Verified.{IsStop, Passed}
use Rattle.ix_stages.proofs.verifier.verify.Given as goal

abbrev pub invariant-loop : goal.invariant-loop
invariant-loop g l =
    (l.seat.table ≡ l.fn.seat.table)
    × SameIn l.fn.lane l.lane
    × ((did : Passed l.store l.fn.seat.pass l.seat.pass (sent_by l.fn.lane) (sent_by l.lane) (g.C.Check.checked l.fn.check) (g.C.Check.checked l.check)) × All (λ x. IsStop x → ⊥) did.taken)
