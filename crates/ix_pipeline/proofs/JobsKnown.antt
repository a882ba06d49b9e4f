-- What is known of a job, or of a `&` to jobs: what every `Job` keeps.
use Rattle.std.proofs.Common.{subst}
use denote.Known.{Known, nothing_known, view_known}
use Rattle.ix_walk.specs.declared.job.Job.TheView as job
use Rattle.ix_walk.specs.JobMeaning.{JobMeaning, coded_job, IsJob}
use Rattle.ix_walk.specs.contracts.job.Job as row
use Rattle.ix_walk.specs.contracts.job.Job.TheInside as inside

-- a job is the view of fields that meet its invariant
abbrev pub job_known : Known row.the_row
job_known = view_known inside.the_row (nothing_known inside.the_row) JobMeaning coded_job job.view job.invariant

-- the known fact about a job is that it is one
pub is_job : (j : JobMeaning) → job_known.Fact j → IsJob j
is_job j known = subst IsJob known.1.0 known.1.1
