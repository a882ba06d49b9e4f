use Rattle.std.proofs.Common.{rules}
use Rattle.ix_cbor.proofs.codec.whole.Goals as goal

pub returns : goal.returns
returns c = search rules
