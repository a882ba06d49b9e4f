use Rattle.std.proofs.Common.{rules}
use Rattle.ix_cid.proofs.cid.Cid.codec.Goals as goal

pub returns : goal.returns
returns c = search rules
