use Rattle.std.proofs.Common.{◌≡◌, ◌++◌, take}
use Rattle.ix_own_archive.proofs.stream_bytes.record_bytes.Given as goal

abbrev pub invariant-loop-byte : goal.invariant-loop-byte
invariant-loop-byte l = l.history ≡ l.initial.history ++ take l.byte-index l.bytes
