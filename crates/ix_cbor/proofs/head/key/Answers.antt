use Rattle.std.proofs.Common.{rules}
use Rattle.ix_cbor.proofs.head.key.Goals as goal

pub returns : goal.returns
returns c = search rules
