-- To which positions a step goes.
use Rattle.std.specs.Prelude.{ℤ, pos, int_le, int_lt, Bool, false, ◌&&◌}
use Rattle.std.specs.Ordering.{int_eq}
use Rattle.ix_selector.specs.Enters.{Step, key, nth}

-- whether the step goes to this position
abbrev pub is_at : ℤ → Step → Bool
is_at i (key k) = false
is_at i (nth n) = int_eq i (pos n)

-- whether the step goes to a position from i, included, to j, excluded
abbrev pub is_within : ℤ → ℤ → Step → Bool
is_within i j (key k) = false
is_within i j (nth n) = int_le i (pos n) && int_lt (pos n) j
