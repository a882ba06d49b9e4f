use Rattle.std.proofs.Common.{◌≡◌, ◌+◌, ◌<◌, ◌++◌, drop, All, Ok}
use Rattle.ix_cid_text.specs.Base.{◌>>=◌, digits_from, radix}
use Rattle.ix_cid_text.proofs.base.Base.digits.Given as goal

abbrev pub invariant-loop-offset : goal.invariant-loop-offset
invariant-loop-offset l = record {
  goes_on : (digits_from l.self (l.place + l.offset) (drop l.offset l.text) >>= (λ more. Ok (l.digits.items ++ more))) ≡ digits_from l.self l.place l.text;
  below : All (λ d. d < radix l.self) l.digits.items;
}
