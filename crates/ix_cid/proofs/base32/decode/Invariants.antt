use Rattle.std.proofs.Common.{◌≡◌, ◌++◌, length, Ok}
use Rattle.ix_cid.specs.Cid.{◌>>=◌}
use Rattle.ix_cid.specs.CidText.{bytes_of_base32}
use Rattle.ix_cid.proofs.base32.decode.Given as goal

abbrev pub invariant-loop-rest : goal.invariant-loop-rest
invariant-loop-rest l = bytes_of_base32 l.letters ≡ (bytes_of_base32 l.rest >>= (λ more. Ok (l.bytes.items ++ more)))

abbrev pub decreases-loop-rest : goal.decreases-loop-rest
decreases-loop-rest l = length l.rest
