use Rattle.std.proofs.Common.{arith}
use Rattle.ix_cid.proofs.Digits.{pow-least}
use Rattle.ix_cid.proofs.base32.number_of_bytes.Goals as goal

pub overflow_mul-number : goal.overflow_mul-number
overflow_mul-number c = omega (arith, pow-least 256 c.loop-byte.byte-index 4 (omega arith) (omega arith))
