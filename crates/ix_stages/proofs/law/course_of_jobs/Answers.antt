use Rattle.ix_stages.proofs.JobCourses.{sized, visits_there, over_there, visit_allowed, close_allowed, small, of_store}
use Rattle.ix_stages.proofs.law.course_of_jobs.Goals as goal

pub returns : goal.returns
returns c = record { sized = sized; visits = visits_there; over = over_there; visit = visit_allowed; close = close_allowed; small = small; store = of_store }
