-- A job file has no more than 1,000 jobs.
use Rattle.std.proofs.Common.{◌≡◌, ℕ, ◌+◌, ◌≤◌, List, [], ◌∷◌, ◌++◌, length, refl, sym, ap, subst, Bool, true, false, cond, arith, length-append, leb, eqb}
use Rattle.std.specs.Prelude.{Result, Ok, Err, IfOk}
use Rattle.std.specs.Global.{Vec}
use Rattle.std.specs.List.{slice_split}
use Rattle.std.specs.Str.Lines.{strip_carriage_return}
use Rattle.std.proofs.lemmas.Bool.{leb-false}
use Rattle.ix_walk.specs.JobMeaning.{JobMeaning, going_in, walked}
use Rattle.ix_jobs.specs.declared.fault.JobErrorKind.{JobErrorKind}
use Rattle.ix_jobs.specs.declared.fault.JobsFault.{JobsFault}
use Rattle.ix_jobs.specs.declared.fault.JobErrorKind.TheVariants.{Repeated, TooMany}
use Rattle.std.proofs.lemmas.List.{length-map}
use Rattle.ix_cid.proofs.Results.{ok_same}
use Rattle.ix_jobs.specs.Jobs.{◌>>=◌, is_ignored, line_job, joined, with_line, at_line, jobs_from, jobs_up_to, is_taken}

module _ (before jobs : List JobMeaning) (few : length before ≤ 1000) where
  -- a list with room for one more job has at most 1,000 with it
  one_more : (job : JobMeaning) (full : Bool) → leb 1000 (length before) ≡ full → cond full (Err TooMany) (Ok (before ++ job ∷ [])) ≡ Ok jobs → length jobs ≤ 1000
  one_more job true e h = absurd cc
  one_more job false e h =
      let same : length (before ++ job ∷ []) ≡ length jobs = ap length (ok_same (before ++ job ∷ []) jobs h) in
      omega (arith, same, length-append before (job ∷ []), leb-false 1000 (length before) e)

  -- a job that is added with a free name leaves at most 1,000
  joined-few : (job : JobMeaning) (taken : Bool) → cond taken (Err Repeated) (cond (leb 1000 (length before)) (Err TooMany) (Ok (before ++ job ∷ []))) ≡ Ok jobs → length jobs ≤ 1000
  joined-few job true h = absurd cc
  joined-few job false h = one_more job (leb 1000 (length before)) refl h

  -- the same for a job that is read first
  read-few : (read : Result JobMeaning JobErrorKind) → (read >>= joined 1000 before) ≡ Ok jobs → length jobs ≤ 1000
  read-few (Ok job) h = joined-few job (is_taken before job.name) h
  read-few (Err kind) h = absurd cc

  -- the same for a line, which may be ignored
  line-few : (ignored : Bool) (read : Result JobMeaning JobErrorKind) → cond ignored (Ok before) (read >>= joined 1000 before) ≡ Ok jobs → length jobs ≤ 1000
  line-few true read h = subst (λ l. length l ≤ 1000) (ok_same before jobs h) few
  line-few false read h = read-few read h

behind-few : (greatest line : ℕ) (jobs : List JobMeaning) (ls : List (List ℕ)) (read : Result (List JobMeaning) JobErrorKind) → ((more : List JobMeaning) → length more ≤ 1000 → jobs_from greatest 1000 (line + 1) more ls ≡ Ok jobs → length jobs ≤ 1000)
    → ((more : List JobMeaning) → read ≡ Ok more → length more ≤ 1000) → (at_line line read >>= (λ more. jobs_from greatest 1000 (line + 1) more ls)) ≡ Ok jobs → length jobs ≤ 1000
behind-few greatest line jobs ls (Ok more) rest few h = rest more (few more refl) h
behind-few greatest line jobs ls (Err kind) rest few h = absurd cc

-- by induction over the lines: at most 1,000 jobs are read
from-few : (greatest line : ℕ) (before jobs : List JobMeaning) (lines : List (List ℕ)) → length before ≤ 1000 → jobs_from greatest 1000 line before lines ≡ Ok jobs → length jobs ≤ 1000
from-few greatest line before jobs [] few h = subst (λ l. length l ≤ 1000) (ok_same before jobs h) few
from-few greatest line before jobs (l ∷ ls) few h =
    behind-few greatest line jobs ls (with_line greatest 1000 before (strip_carriage_return l)) (λ more f e. from-few greatest (line + 1) more jobs ls f e)
    (λ more e. line-few before more few (is_ignored (strip_carriage_return l)) (line_job greatest (strip_carriage_return l)) e) h

-- a job file that is accepted has at most 1,000 jobs
pub few_jobs : (greatest : ℕ) (b : List ℕ) (jobs : List JobMeaning) → jobs_up_to greatest 1000 b ≡ Ok jobs → length jobs ≤ 1000
few_jobs greatest b jobs h = from-few greatest 1 [] jobs (slice_split (λ x. eqb x 10) b) (omega arith) h

-- the same of what was read
pub few_read : (greatest : ℕ) (b : List ℕ) (r : Result (Vec JobMeaning) JobsFault) → IfOk r (λ jobs. jobs_up_to greatest 1000 b ≡ Ok jobs.items) → IfOk r (λ jobs. length jobs.items ≤ 1000)
few_read greatest b (Ok jobs) h = few_jobs greatest b jobs.items h
few_read greatest b (Err e) h = tt

-- there are as many jobs, however they are walked
pub walked-few : (once : Bool) (jobs more : List JobMeaning) → more ≡ walked once jobs → length jobs ≤ 1000 → length more ≤ 1000
walked-few once jobs more is few = subst (λ l. length l ≤ 1000) (sym is) (elim once as (λ b. length (walked b jobs) ≤ 1000) [ true ↦ subst (λ n. n ≤ 1000) (sym (length-map jobs (going_in true))) few | false ↦ few ])
