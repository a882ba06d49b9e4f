use Rattle.std.proofs.Common.{◌≡◌, ◌++◌, string_bytes}
use Rattle.ix_jobs.specs.Report.{all_absent_lines}
use Rattle.ix_jobs.proofs.AbsentLines.{jobs_left, results_left, counts_left}
use Rattle.ix_jobs.proofs.results.report_with_absent.Given as goal

-- what is written, and the lines of the jobs that are left, are all lines
abbrev pub invariant-loop-job : goal.invariant-loop-job
invariant-loop-job l = string_bytes l.text ++ all_absent_lines (jobs_left l.job-iterator) (results_left l.job-iterator) (counts_left l.job-iterator) ≡ all_absent_lines l.jobs l.results l.absent
