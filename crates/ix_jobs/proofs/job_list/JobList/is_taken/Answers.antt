use Rattle.ix_jobs.proofs.Named.{taken-by_name}
use Rattle.ix_jobs.proofs.job_list.JobList.is_taken.Goals as goal

pub returns : goal.returns
returns c = taken-by_name c.self.inside.names c.self.inside.jobs.items c.args.self.now c.args.name.now c.contains.result c.self.invariant c.self.view_is c.contains.ensures
