use Rattle.std.proofs.Common.{◌≡◌, ℕ, ◌<◌, true, [], get_or}
use Rattle.ix_verdict.specs.Verdict.{passes}
use Rattle.ix_check.specs.Verdict.{verdict_of}
use Rattle.ix_receive.specs.Base.{store_of}
use Rattle.ix_receive.proofs.receiver.check_roots.Given as goal

abbrev pub invariant-loop-root : goal.invariant-loop-root
invariant-loop-root l = (k : ℕ) → k < l.root-index → passes (verdict_of (store_of l.sections) (get_or l.root-items k [])) ≡ true
