-- The progress of a run.
use Rattle.std.specs.Prelude.{Bool, true, false}
use Rattle.ix_cli_io.specs.declared.progress.ProgressMode.{ProgressMode}
use Rattle.ix_cli_io.specs.declared.progress.ProgressMode.TheVariants.{Off, Lines, Line}

-- progress is shown
abbrev pub is_shown : ProgressMode → Bool
is_shown Off = false
is_shown Lines = true
is_shown (Line after) = true
