-- Jobs and their results, in several lists.
use Rattle.std.specs.Prelude.{◌≡◌, ℕ, List, ◌++◌, length, flat_map, sum_by}
use Rattle.ix_walk.specs.JobMeaning.{JobMeaning}
use Rattle.ix_jobs.specs.declared.results.JobResult.{JobResult}
use Rattle.ix_jobs.specs.Report.{all_lines, done_count, skip_count, total_line}

-- the jobs of some run, and the result of each
abbrev pub Told : Type 0
Told = List JobMeaning × List JobResult

-- each job has a result
abbrev pub IsWhole : Told → Type 0
IsWhole t = length t.0 ≡ length t.1

-- the jobs of all lists, and their results
abbrev pub jobs_of_all : List Told → List JobMeaning
jobs_of_all ts = flat_map (λ t. t.0) ts

abbrev pub results_of_all : List Told → List JobResult
results_of_all ts = flat_map (λ t. t.1) ts

-- the lines of each report but its last, and a last line with the sums
abbrev pub merged : List Told → List ℕ
merged ts = flat_map (λ t. all_lines t.0 t.1) ts ++ total_line (sum_by (λ t. length t.0) ts) (sum_by (λ t. done_count t.1) ts) (sum_by (λ t. skip_count t.1) ts)
