-- The report of jobs that are put end to end.
use Rattle.std.proofs.Common.{◌≡◌, ◌∙◌, sym, ap, refl, ℕ, ◌+◌, List, [], ◌∷◌, ◌++◌, length, append_assoc, arith}
use Rattle.std.specs.Prelude.{flat_map, sum_by, cond}
use Rattle.std.specs.List.{All}
use Rattle.std.proofs.lemmas.List.Concat.{length-flat_map}
use Rattle.std.proofs.lemmas.List.Elements.{All-head, All-tail}
use Rattle.std.proofs.lemmas.List.Sums.{sum_by-append, sum_by-cons}
use Rattle.ix_walk.specs.JobMeaning.{JobMeaning}
use Rattle.ix_jobs.specs.declared.results.JobResult.{JobResult}
use Rattle.ix_jobs.specs.Report.{is_done, job_lines, all_lines, done_count, skip_count, total_line, report_of}
use Rattle.ix_jobs.specs.Joined.{Told, IsWhole, jobs_of_all, results_of_all, merged}

-- the lines of two lists of jobs are those of the first and of the second
all_lines-append : (jobs more : List JobMeaning) (rs ss : List JobResult) → length jobs ≡ length rs → all_lines (jobs ++ more) (rs ++ ss) ≡ all_lines jobs rs ++ all_lines more ss
all_lines-append [] more [] ss same = refl
all_lines-append [] more (r ∷ rs) ss same = absurd (omega (arith, same))
all_lines-append (job ∷ jobs) more [] ss same = absurd (omega (arith, same))
all_lines-append (job ∷ jobs) more (r ∷ rs) ss same =
    ap (λ l. job_lines job r ++ l) (all_lines-append jobs more rs ss (omega (arith, same)))
    ∙ sym (append_assoc (job_lines job r) (all_lines jobs rs) (all_lines more ss))

-- the lines of all lists of jobs are those of each, by induction
lines-of_all : (ts : List Told) → All IsWhole ts → all_lines (jobs_of_all ts) (results_of_all ts) ≡ flat_map (λ t. all_lines t.0 t.1) ts
lines-of_all [] whole = refl
lines-of_all (t ∷ ts) whole =
    all_lines-append t.0 (jobs_of_all ts) t.1 (results_of_all ts) (All-head IsWhole t ts whole)
    ∙ ap (λ l. all_lines t.0 t.1 ++ l) (lines-of_all ts (All-tail IsWhole t ts whole))

-- a sum over lists is the sum of their sums
sum_by-flat_map : {X A : Type 0} (f : A → ℕ) (g : X → List A) (xs : List X) → sum_by f (flat_map g xs) ≡ sum_by (λ x. sum_by f (g x)) xs
sum_by-flat_map f g [] = refl
sum_by-flat_map f g (x ∷ xs) = sum_by-append f (g x) (flat_map g xs) ∙ ap (λ n. sum_by f (g x) + n) (sum_by-flat_map f g xs) ∙ sym (sum_by-cons (λ x. sum_by f (g x)) x xs)

-- the report of all jobs is the merged report
pub reports-merged : (ts : List Told) → All IsWhole ts → report_of (jobs_of_all ts) (results_of_all ts) ≡ merged ts
reports-merged ts whole =
    let jobs : length (jobs_of_all ts) ≡ sum_by (λ t. length t.0) ts = length-flat_map (λ t. t.0) ts in
    let done : done_count (results_of_all ts) ≡ sum_by (λ t. done_count t.1) ts = sum_by-flat_map (λ (r : JobResult). cond (is_done r.end) 1 0) (λ t. t.1) ts in
    let skips : skip_count (results_of_all ts) ≡ sum_by (λ t. skip_count t.1) ts = sum_by-flat_map (λ (r : JobResult). length r.skips.items) (λ t. t.1) ts in
    ap (λ l. l ++ total_line (length (jobs_of_all ts)) (done_count (results_of_all ts)) (skip_count (results_of_all ts))) (lines-of_all ts whole)
    ∙ ap (λ n. flat_map (λ t. all_lines t.0 t.1) ts ++ total_line n (done_count (results_of_all ts)) (skip_count (results_of_all ts))) jobs
    ∙ ap (λ n. flat_map (λ t. all_lines t.0 t.1) ts ++ total_line (sum_by (λ t. length t.0) ts) n (skip_count (results_of_all ts))) done
    ∙ ap (λ n. flat_map (λ t. all_lines t.0 t.1) ts ++ total_line (sum_by (λ t. length t.0) ts) (sum_by (λ t. done_count t.1) ts) n) skips
