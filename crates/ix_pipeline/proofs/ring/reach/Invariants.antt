use Rattle.std.proofs.Common.{◌≡◌, ◌<◌, ◌≤◌, ◌+◌, ◌-◌, ℕ, length}
use Rattle.ix_pipeline.specs.Numbered.{slot}
use Rattle.ix_pipeline.proofs.ring.reach.Given as goal

abbrev pub invariant-loop-window : goal.invariant-loop-window
invariant-loop-window g l = record {
  slots : (k : ℕ) → slot l.window.items k ≡ slot l.fn.window.items k;
  room : l.index < l.window.capacity;
  within : (most : ℕ) → l.index < most → length l.fn.window.items ≤ most → length l.window.items ≤ most;
}

abbrev pub decreases-loop-window : goal.decreases-loop-window
decreases-loop-window g l = l.index + 1 - length l.window.items
