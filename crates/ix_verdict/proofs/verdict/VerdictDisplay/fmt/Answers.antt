use Rattle.std.proofs.Common.{rules}
use Rattle.ix_verdict.proofs.verdict.VerdictDisplay.fmt.Goals as goal

pub returns-in-Missing-clause-writes : goal.returns-in-Missing-clause-writes
returns-in-Missing-clause-writes g c = search rules
