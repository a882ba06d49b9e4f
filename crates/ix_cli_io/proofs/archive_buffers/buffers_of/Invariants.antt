use Rattle.std.proofs.Common.{◌≡◌, length}
use Rattle.ix_cli_io.proofs.archive_buffers.buffers_of.Given as goal

abbrev pub invariant-loop-output : goal.invariant-loop-output
invariant-loop-output l = length l.buffers.items ≡ l.output-index
