use Rattle.std.proofs.Common.{◌≡◌, ◌++◌, take}
use Rattle.ix_cid.specs.CidText.{digits_in}
use Rattle.ix_cid.proofs.base32.push_front.Given as goal

abbrev pub invariant-loop-place : goal.invariant-loop-place
invariant-loop-place l = l.bytes.items ≡ l.initial.bytes.items ++ take l.place (digits_in 256 5 l.bits)
