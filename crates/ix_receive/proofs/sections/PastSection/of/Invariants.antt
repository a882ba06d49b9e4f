use Rattle.std.proofs.Common.{◌≡◌, take}
use Rattle.ix_receive.proofs.sections.PastSection.of.Given as goal

abbrev pub invariant-loop-byte : goal.invariant-loop-byte
invariant-loop-byte l = l.bytes ≡ take l.byte-index l.block
