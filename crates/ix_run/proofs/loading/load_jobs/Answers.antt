use Rattle.ix_run.proofs.JobNumbers.{walked-few}
use Rattle.ix_run.proofs.loading.load_jobs.Goals as goal

pub returns-clause-few : goal.returns-clause-few
returns-clause-few c = walked-few c.args.choice.once c.in_ok-jobs.jobs.items c.in_ok-jobs-2.jobs.items c.in_ok-jobs-2.ensures c.in_ok-jobs.ensures.few
