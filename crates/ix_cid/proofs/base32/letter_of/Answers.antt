use Rattle.std.proofs.Common.{rules}
use Rattle.ix_cid.proofs.base32.letter_of.Goals as goal

pub returns : goal.returns
returns c = search rules
