use Rattle.std.proofs.Common.{rules}
use Rattle.ix_check.proofs.check.ShaCheckCheck.check.Goals as goal

pub returns-clause-noted : goal.returns-clause-noted
returns-clause-noted c = search rules
