use Rattle.std.proofs.Common.{◌≡◌, ◌∷◌, ◌++◌, string_bytes, take}
use Rattle.ix_trace.specs.Text.{escaped}
use Rattle.ix_trace.proofs.text.push_segment.Given as goal

abbrev pub invariant-loop-byte : goal.invariant-loop-byte
invariant-loop-byte l = string_bytes l.text ≡ string_bytes l.fn.text ++ 47 ∷ escaped (take l.byte-index l.segment)
