use Rattle.std.proofs.Common.{◌≡◌, ◌++◌, map, take, string_bytes}
use Rattle.ix_cid.specs.CidText.{letter, digits_in}
use Rattle.ix_cid.proofs.base32.push_quantum.Given as goal

abbrev pub invariant-loop-place : goal.invariant-loop-place
invariant-loop-place l = string_bytes l.text ≡ string_bytes l.initial.text ++ take l.place (map letter (digits_in 32 8 l.bits))
