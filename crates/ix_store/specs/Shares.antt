-- What a thread found for its share of the numbers.
use Rattle.std.specs.Prelude.{ℕ, ◌+◌, ◌*◌, ◌<◌, List, length, slice_index_or}
use denote.Param.Members.{Shared}
use Rattle.std.specs.Fn.{FnReturns}

module _ {F X : Type 0} (g : Shared F (ℕ × Unit {0}) X) (f : F) where
  -- the results of calls of f at from, from + step, from + 2 * step and so on, below count
  pub record IsShare (count step from : ℕ) (results : List X) : Type 0 where
    pub whole : (k : ℕ) → from + k * step < count → k < length results
    pub each : (k : ℕ) (d : X) → k < length results → FnReturns g f (from + k * step, tt) (slice_index_or results k d)
