-- Steps of the report of jobs whose absent skips were counted.
use Rattle.std.proofs.Common.{◌≡◌, ◌∙◌, sym, ap, refl, subst, Bor, ℕ, List, [], ◌∷◌, ◌++◌}
use Rattle.std.specs.Prelude.{Option, None, Some}
use Rattle.std.specs.Iterator.Adapters.{zip_first, zip_second}
use Rattle.std.specs.Slice.Iter.{iter_rest}
use Rattle.std.proofs.lemmas.List.{append-nil, nil_from_length}
use Rattle.std.proofs.lemmas.Iterator.{zips}
use Rattle.std.proofs.lemmas.Fn.{fronts}
use Rattle.std.specs.declared.iter.Zip.{Zip}
use Rattle.std.specs.declared.slice.Iter.{Iter}
use mathlib.Core.Logic.{◌⊎◌, inl, inr}
use Rattle.ix_walk.specs.JobMeaning.{JobMeaning}
use Rattle.ix_car.specs.declared.archive.Skip.{Skip}
use Rattle.ix_jobs.specs.Report.{skip_lines, absent_line, all_absent_lines}
use Rattle.ix_jobs.specs.declared.results.JobResult.{JobResult}
use Rattle.ix_jobs.proofs.Lines.{regrouped}

-- three slices side by side
abbrev Three : Type 0
Three = Zip (Zip (Iter JobMeaning) (Iter JobResult)) (Iter ℕ)

abbrev Taken : Type 0
Taken = (Bor JobMeaning × Bor JobResult) × Bor ℕ

abbrev pub jobs_left : Three → List JobMeaning
jobs_left s = iter_rest (zip_first (zip_first s))

abbrev pub results_left : Three → List JobResult
results_left s = iter_rest (zip_second (zip_first s))

abbrev pub counts_left : Three → List ℕ
counts_left s = iter_rest (zip_second s)

pub three_more : (s t : Three) (r : Option Taken) (p : Taken) → r ≡ Some p → zips (zips fronts fronts) fronts s r t
    → ((jobs_left s ≡ p.0.0.now ∷ jobs_left t) × (results_left s ≡ p.0.1.now ∷ results_left t)) × (counts_left s ≡ p.1.now ∷ counts_left t)
three_more s t r p e h = subst (λ o. zips (zips fronts fronts) fronts s o t) e h

-- one of the three is empty
abbrev pub IsOver : Three → Type 0
IsOver s = ((jobs_left s ≡ []) ⊎ (results_left s ≡ [])) ⊎ (counts_left s ≡ [])

pub three_over : (s t : Three) (r : Option Taken) → r ≡ None → zips (zips fronts fronts) fronts s r t → IsOver s
three_over s t r e p = by (subst (λ o. zips (zips fronts fronts) fronts s o t) e p)
  where
    pair : ((u : Iter JobMeaning) × fronts (zip_first (zip_first s)) None u) ⊎ ((u : Iter JobResult) × fronts (zip_second (zip_first s)) None u) → (jobs_left s ≡ []) ⊎ (results_left s ≡ [])
    pair (inl a) = inl (nil_from_length _ a.1.0)
    pair (inr b) = inr (nil_from_length _ b.1.0)

    by : ((u : Zip (Iter JobMeaning) (Iter JobResult)) × zips fronts fronts (zip_first s) None u) ⊎ ((u : Iter ℕ) × fronts (zip_second s) None u) → IsOver s
    by (inl a) = inl (pair a.1)
    by (inr b) = inr (nil_from_length _ b.1.0)

-- a turn of the loop: what is written, and the lines of the jobs that are left
pub absent_job_more : (old mid new all : List ℕ) (s t : Three) (p : Taken) (skips : List Skip) → ((jobs_left s ≡ p.0.0.now ∷ jobs_left t) × (results_left s ≡ p.0.1.now ∷ results_left t)) × (counts_left s ≡ p.1.now ∷ counts_left t) → mid ≡ old ++ absent_line p.0.0.now p.0.1.now p.1.now → new ≡ mid ++ skip_lines skips → skips ≡ p.0.1.now.skips.items → old ++ all_absent_lines (jobs_left s) (results_left s) (counts_left s) ≡ all → new ++ all_absent_lines (jobs_left t) (results_left t) (counts_left t) ≡ all
absent_job_more old mid new all s t p skips left line lines is before =
    let line_now = absent_line p.0.0.now p.0.1.now p.1.now in
    let rest = all_absent_lines (jobs_left t) (results_left t) (counts_left t) in
    ap (λ (l : List ℕ). l ++ rest) (lines ∙ ap (λ (l : List ℕ). l ++ skip_lines skips) line ∙ ap (λ (k : List Skip). old ++ line_now ++ skip_lines k) is)
    ∙ regrouped old line_now (skip_lines p.0.1.now.skips.items) rest
    ∙ sym (ap (λ (l : List ℕ). old ++ all_absent_lines (p.0.0.now ∷ jobs_left t) (p.0.1.now ∷ results_left t) l) left.1)
    ∙ sym (ap (λ (l : List JobResult). old ++ all_absent_lines (p.0.0.now ∷ jobs_left t) l (counts_left s)) left.0.1)
    ∙ sym (ap (λ (l : List JobMeaning). old ++ all_absent_lines l (results_left s) (counts_left s)) left.0.0)
    ∙ before

no_results : (jobs : List JobMeaning) (counts : List ℕ) → all_absent_lines jobs [] counts ≡ []
no_results [] counts = refl
no_results (job ∷ jobs) counts = refl

no_counts : (jobs : List JobMeaning) (rs : List JobResult) → all_absent_lines jobs rs [] ≡ []
no_counts [] rs = refl
no_counts (job ∷ jobs) [] = refl
no_counts (job ∷ jobs) (r ∷ rs) = refl

no_more : (s : Three) → IsOver s → all_absent_lines (jobs_left s) (results_left s) (counts_left s) ≡ []
no_more s (inl (inl e)) = ap (λ (l : List JobMeaning). all_absent_lines l (results_left s) (counts_left s)) e
no_more s (inl (inr e)) = ap (λ (l : List JobResult). all_absent_lines (jobs_left s) l (counts_left s)) e ∙ no_results (jobs_left s) (counts_left s)
no_more s (inr e) = ap (λ (l : List ℕ). all_absent_lines (jobs_left s) (results_left s) l) e ∙ no_counts (jobs_left s) (results_left s)

-- where nothing is left of one, all lines are written
pub all_absent_written : (text all : List ℕ) (s : Three) → IsOver s → text ++ all_absent_lines (jobs_left s) (results_left s) (counts_left s) ≡ all → text ≡ all
all_absent_written text all s over before = sym (ap (λ (l : List ℕ). text ++ l) (no_more s over) ∙ append-nil text) ∙ before
