-- What the laws say of parts and reports.
use Rattle.std.specs.Prelude.{◌≡◌, ◌<◌, ℕ, List}
use Rattle.std.specs.List.{All}
use Rattle.ix_jobs.specs.Parts.{all_parts}
use Rattle.ix_jobs.specs.Report.{report_of}
use Rattle.ix_jobs.specs.Joined.{Told, IsWhole, jobs_of_all, results_of_all, merged}

-- the parts of a list, put end to end, are the list
abbrev pub ArePartsWhole : Type 0 → Type 0
ArePartsWhole A = (n : ℕ) (xs : List A) → 0 < n → all_parts n xs ≡ xs

-- the report of jobs that are put end to end is that of their reports
abbrev pub AreReportsMerged : Type 0
AreReportsMerged = (ts : List Told) → All IsWhole ts → report_of (jobs_of_all ts) (results_of_all ts) ≡ merged ts
