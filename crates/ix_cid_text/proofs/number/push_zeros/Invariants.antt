use Rattle.std.proofs.Common.{◌≡◌, ◌++◌, length}
use Rattle.ix_cid_text.specs.Bytes.{zeros_of}
use Rattle.ix_cid_text.proofs.number.push_zeros.Given as goal

abbrev pub invariant-loop-rest : goal.invariant-loop-rest
invariant-loop-rest l = l.bytes.items ++ zeros_of l.rest ≡ l.initial.bytes.items ++ zeros_of l.digits

abbrev pub decreases-loop-rest : goal.decreases-loop-rest
decreases-loop-rest l = length l.rest
