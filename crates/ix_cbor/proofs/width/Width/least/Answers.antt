use Rattle.std.proofs.Common.{rules}
use Rattle.ix_cbor.proofs.width.Width.least.Goals as goal

pub returns-in-One : goal.returns-in-One
returns-in-One c = search rules
