use Rattle.std.proofs.Common.{◌≡◌, length}
use Rattle.ix_cli_io.proofs.archive_buffers.writers_to.Given as goal

abbrev pub invariant-loop-buffer : goal.invariant-loop-buffer
invariant-loop-buffer l = length l.writers.items ≡ l.buffer-index
