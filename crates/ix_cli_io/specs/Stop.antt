-- The exit status of a command that gives no answer though its inputs were read.
use Rattle.std.specs.Prelude.{ℕ, Bool, true, false, cond, ◌==◌}
use Rattle.ix_cli_io.specs.declared.stop.ErrorCode.{ErrorCode}
use Rattle.ix_cli_io.specs.declared.stop.ErrorCode.TheVariants.{NoKey, NoIndex, NoChild, Missing, Damaged, Malformed, Codec, Hash, DagJson}

-- what is asked for isn't there, or can't be read or printed, though the arguments are good
abbrev pub is_of_graph : ErrorCode → Bool
is_of_graph NoKey = true
is_of_graph NoIndex = true
is_of_graph NoChild = true
is_of_graph Missing = true
is_of_graph Damaged = true
is_of_graph Malformed = true
is_of_graph Codec = true
is_of_graph Hash = true
is_of_graph DagJson = true
is_of_graph other = false

-- the status is then 3, and otherwise 2
abbrev pub status_by : ErrorCode → ℕ
status_by code = cond (is_of_graph code) 3 2

-- at a command that writes an archive 3 says that it has its name, so the status is 4 in its place
abbrev pub archive_status : ℕ → ℕ
archive_status status = cond (status == 3) 4 status
