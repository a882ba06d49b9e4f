use Rattle.std.proofs.Common.{rules, append_assoc}
use Rattle.ix_jobs.proofs.results.push_counts.Goals as goal

pub returns : goal.returns
returns c = simp append_assoc (search rules)
