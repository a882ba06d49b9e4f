use Rattle.std.proofs.Common.{rules}
use Rattle.ix_cid.proofs.cid.CidPartialOrd.partial_cmp.Goals as goal

pub returns : goal.returns
returns c = search rules
