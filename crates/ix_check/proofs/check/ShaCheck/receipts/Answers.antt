use Rattle.std.proofs.Common.{rules}
use Rattle.ix_check.proofs.check.ShaCheck.receipts.Goals as goal

pub returns : goal.returns
returns c = search rules
