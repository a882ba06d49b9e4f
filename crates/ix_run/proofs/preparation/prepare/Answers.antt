use Rattle.std.proofs.Common.{rules, ◌≤◌, length, subst, sym}
use Rattle.ix_run.proofs.JobNumbers.{few_jobs}
use Rattle.ix_run.proofs.preparation.prepare.Goals as goal

pub returns-clause-loaded : goal.returns-clause-loaded
returns-clause-loaded c = (
  search rules,
  search rules,
  subst (λ v. length v.items ≤ 1000) (sym c.in_ok-shared.ensures.1) (few_jobs 1000000 c.args.jobs.now c.in_ok-jobs.jobs.items c.in_ok-jobs.ensures.jobs),
)

pub returns-in_err-jobs-clause-refused : goal.returns-in_err-jobs-clause-refused
returns-in_err-jobs-clause-refused c = search rules
