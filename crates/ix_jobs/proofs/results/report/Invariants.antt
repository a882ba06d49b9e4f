use Rattle.std.proofs.Common.{◌≡◌, ◌++◌, string_bytes}
use Rattle.std.specs.Iterator.Adapters.{zip_first, zip_second}
use Rattle.std.specs.Slice.Iter.{iter_rest}
use Rattle.ix_jobs.specs.Report.{all_lines}
use Rattle.ix_jobs.proofs.results.report.Given as goal

-- what is written, and the lines of the jobs that are left, are all lines
abbrev pub invariant-loop-job : goal.invariant-loop-job
invariant-loop-job l = string_bytes l.text ++ all_lines (iter_rest (zip_first l.job-iterator)) (iter_rest (zip_second l.job-iterator)) ≡ all_lines l.jobs l.results
