use Rattle.ix_run.proofs.JobNumbers.{few_read}
use Rattle.ix_run.proofs.loading.read_chosen.Goals as goal

pub returns-in-None-clause-few : goal.returns-in-None-clause-few
returns-in-None-clause-few c = few_read c.args.choice.greatest_limit c.args.job_file.now c.read_jobs_up_to.result c.read_jobs_up_to.ensures.jobs
