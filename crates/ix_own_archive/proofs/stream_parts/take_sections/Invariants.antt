use Rattle.std.proofs.Common.{length}
use Rattle.ix_own_archive.specs.Requests.{asked_of}
use Rattle.ix_own_archive.specs.Taking.{MovesOn, HasChecked}
use Rattle.ix_own_archive.proofs.stream_parts.take_sections.Given as goal

abbrev pub invariant-loop-length : goal.invariant-loop-length
invariant-loop-length l = MovesOn l.initial.bytes l.bytes × HasChecked (asked_of l.request) l.bytes l.receiver

abbrev pub decreases-loop-length : goal.decreases-loop-length
decreases-loop-length l = length l.bytes.rest
