use Rattle.ix_stages.proofs.JobCourses.{good}
use Rattle.ix_stages.proofs.law.well_taken_is_good.Goals as goal

pub returns : goal.returns
returns c = good
