use Rattle.std.proofs.Common.{◌≡◌, ℕ, ◌+◌, ◌-◌, ◌*◌, ◌<◌, length}
use Rattle.std.specs.Prelude.{min, slice_index_or}
use Rattle.std.specs.Fn.{FnReturns}
use Rattle.ix_store.proofs.Sharing.{greatest}
use Rattle.ix_store.proofs.interleaved.share_of.Given as goal

-- the next number, and a result for each one before it
abbrev pub invariant-loop-number : goal.invariant-loop-number
invariant-loop-number g l =
    (l.number ≡ min greatest (l.from + length l.found.items * l.step))
    × ((k : ℕ) (d : g.row.X.Denot) → k < length l.found.items → FnReturns g.F.Fn l.f (l.from + k * l.step, tt) (slice_index_or l.found.items k d))

abbrev pub decreases-loop-number : goal.decreases-loop-number
decreases-loop-number g l = l.count - l.number
