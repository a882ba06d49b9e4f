-- Steps of the report and the status, over lists.
use Rattle.std.proofs.Common.{◌≡◌, ◌∙◌, sym, ap, refl, ℕ, ◌<◌, ◌≤◌, true, List, [], ◌∷◌, ◌++◌, append_assoc}
use Rattle.std.specs.List.{list_all}
use Rattle.std.proofs.lemmas.List.{append-nil}
use Rattle.std.proofs.lemmas.Bool.{lt-ltb, le-ltb}
use mathlib.Core.Logic.{◌⊎◌, inl, inr}
use Rattle.ix_walk.specs.JobMeaning.{JobMeaning}
use Rattle.ix_car.specs.declared.archive.Skip.{Skip}
use Rattle.ix_jobs.specs.Report.{is_done, skip_lines, job_line, all_lines, done_count, skip_count, total_line, status_of}
use Rattle.ix_jobs.specs.declared.results.JobResult.{JobResult}

-- lines in two groups are the same lines
pub regrouped : (old line more rest : List ℕ) → old ++ line ++ more ++ rest ≡ old ++ (line ++ more ++ rest)
regrouped old line more rest = simp append_assoc

-- a turn of the loop over jobs: what is written, and the lines of the jobs that are left
pub a_job_more : (old mid new all : List ℕ) (job : JobMeaning) (r : JobResult) (skips : List Skip) (jobs later_jobs : List JobMeaning) (rs later_rs : List JobResult) → jobs ≡ job ∷ later_jobs → rs ≡ r ∷ later_rs → mid ≡ old ++ job_line job.name r.end r.counts → new ≡ mid ++ skip_lines skips → skips ≡ r.skips.items → old ++ all_lines jobs rs ≡ all → new ++ all_lines later_jobs later_rs ≡ all
a_job_more old mid new all job r skips jobs later_jobs rs later_rs first second line lines is before =
    ap (λ (t : List ℕ). t ++ all_lines later_jobs later_rs) (lines ∙ ap (λ (t : List ℕ). t ++ skip_lines skips) line ∙ ap (λ (s : List Skip). old ++ job_line job.name r.end r.counts ++ skip_lines s) is)
    ∙ regrouped old (job_line job.name r.end r.counts) (skip_lines r.skips.items) (all_lines later_jobs later_rs)
    ∙ sym (ap (λ (b : List JobResult). old ++ all_lines (job ∷ later_jobs) b) second)
    ∙ sym (ap (λ (a : List JobMeaning). old ++ all_lines a rs) first)
    ∙ before

-- without results there are no lines
no_results : (jobs : List JobMeaning) → all_lines jobs [] ≡ []
no_results [] = refl
no_results (job ∷ jobs) = refl

-- without more jobs or results there are no lines
no_more : (jobs : List JobMeaning) (rs : List JobResult) → (jobs ≡ []) ⊎ (rs ≡ []) → all_lines jobs rs ≡ []
no_more jobs rs (inl e) = ap (λ (a : List JobMeaning). all_lines a rs) e
no_more jobs rs (inr e) = ap (λ (b : List JobResult). all_lines jobs b) e ∙ no_results jobs

-- where no pair is left, all lines are written
pub all_written : (text all : List ℕ) (jobs : List JobMeaning) (rs : List JobResult) → (jobs ≡ []) ⊎ (rs ≡ []) → text ++ all_lines jobs rs ≡ all → text ≡ all
all_written text all jobs rs none before = sym (ap (λ (t : List ℕ). text ++ t) (no_more jobs rs none) ∙ append-nil text) ∙ before

-- the last line, from the counts
pub total_line-same : (text : List ℕ) (jobs : ℕ) (rs : List JobResult) (done skips : ℕ) → done ≡ done_count rs → skips ≡ skip_count rs → text ++ total_line jobs done skips ≡ text ++ total_line jobs (done_count rs) (skip_count rs)
total_line-same text jobs rs done skips d s =
    ap (λ (n : ℕ). text ++ total_line jobs n skips) d ∙ ap (λ (n : ℕ). text ++ total_line jobs (done_count rs) n) s

-- if all jobs are done and there are skips, the status is 3
pub status_with_skips : (rs : List JobResult) → list_all (λ (r : JobResult). is_done r.end) rs ≡ true → 0 < skip_count rs → 3 ≡ status_of rs
status_with_skips rs done some = rw (done, lt-ltb _ _ some) refl

-- if all jobs are done and there are no skips, the status is 0
pub status_without_skips : (rs : List JobResult) → list_all (λ (r : JobResult). is_done r.end) rs ≡ true → skip_count rs ≤ 0 → 0 ≡ status_of rs
status_without_skips rs done none = rw (done, le-ltb _ _ none) refl
