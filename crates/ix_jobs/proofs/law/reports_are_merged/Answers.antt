use Rattle.ix_jobs.proofs.ReportLaws.{reports-merged}
use Rattle.ix_jobs.proofs.law.reports_are_merged.Goals as goal

pub returns : goal.returns
returns c = reports-merged
