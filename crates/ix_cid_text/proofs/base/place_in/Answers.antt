use Rattle.std.proofs.Common.{rules}
use Rattle.ix_cid_text.proofs.Places.{found, missing}
use Rattle.ix_cid_text.proofs.base.place_in.Goals as goal

pub returns-then-digit-byte : goal.returns-then-digit-byte
returns-then-digit-byte c = found c.args.byte c.args.alphabet.now c.loop-place.place c.loop-place-test.true c.loop-place.invariant c.if-digit-byte.true

pub returns : goal.returns
returns c = missing c.args.byte c.args.alphabet.now (search rules)
