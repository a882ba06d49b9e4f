use Rattle.std.proofs.Common.{rules}
use Rattle.ix_jobs.proofs.list.is_ignored.Goals as goal

pub returns-in_default : goal.returns-in_default
returns-in_default c = search rules
