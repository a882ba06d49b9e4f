use Rattle.std.proofs.Common.{rules}
use Rattle.ix_cid.proofs.fault.CidFaultDisplay.fmt.Goals as goal

pub returns-in-Base32-clause-writes : goal.returns-in-Base32-clause-writes
returns-in-Base32-clause-writes g c = search rules
