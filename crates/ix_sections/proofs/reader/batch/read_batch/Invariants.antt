use Rattle.std.proofs.Common.{◌+◌, ◌≤◌, length}
use Rattle.ix_sections.proofs.Batches.{ReadsOn}
use Rattle.ix_sections.proofs.reader.batch.read_batch.Given as goal

abbrev pub invariant-loop-batch : goal.invariant-loop-batch
invariant-loop-batch l = record {
  room : length l.batch.items + length l.rest ≤ length l.bytes;
  reads_on : ReadsOn l.size l.bytes l.batch.items l.rest;
}

abbrev pub decreases-loop-batch : goal.decreases-loop-batch
decreases-loop-batch l = length l.rest
