use Rattle.std.proofs.Common.{rules}
use Rattle.ix_jobs.proofs.job_list.JobList.may_join.Goals as goal

pub returns : goal.returns
returns c = search rules
