-- The parts of a level.
use Rattle.std.specs.Prelude.{ℕ, ◌<◌, List, length, Result, IfOk, slice_index_or}
use Rattle.std.specs.declared.alloc.AllocError.{AllocError}
use Rattle.ix_prefetch.specs.Expansions.{ExpansionTable, IsTableOf}

-- each part that could be made is a table of the same job and store
abbrev pub ArePartsOf : ExpansionTable → List (Result ExpansionTable AllocError) → Type 0
ArePartsOf t parts = (k : ℕ) (d : Result ExpansionTable AllocError) → k < length parts → IfOk (slice_index_or parts k d) (IsTableOf t)
