-- The lines of the jobs, one after another.
use Rattle.std.proofs.Common.{◌≡◌, ◌∙◌, sym, ap, refl, not, ℕ, zero, suc, ◌+◌, ◌-◌, ◌<◌, ◌≤◌, leb, Bool, true, false, cond, ◌==◌, List, [], ◌∷◌, ◌++◌, length, length-append, get_or, arith, ⊎_elim}
use Rattle.std.specs.Prelude.{Result, Ok, Err}
use Rattle.std.specs.List.{slice_split, position_or_len, before_first, after_first}
use Rattle.std.specs.Str.Lines.{strip_carriage_return}
use Rattle.std.proofs.lemmas.List.Splits.{slice_split_first}
use Rattle.std.proofs.lemmas.Bool.{cases_lt}
use Rattle.std.proofs.lemmas.List.{take_all, drop_all}
use Rattle.std.proofs.lemmas.List.Sums.{prefix_len-le-length}
use Rattle.ix_walk.specs.JobMeaning.{JobMeaning}
use Rattle.ix_cid.proofs.Results.{ok_same}
use Rattle.ix_jobs.specs.declared.fault.JobErrorKind.{JobErrorKind}
use Rattle.ix_jobs.specs.declared.fault.JobErrorKind.TheVariants.{Repeated, TooMany}
use Rattle.ix_jobs.specs.Jobs.{◌>>=◌, is_ignored, line_job, joined, with_line, at_line, jobs_from, jobs_up_to, is_taken}
use Rattle.ix_jobs.specs.Parts.{own_line, job_lines_from, job_lines}
use Rattle.ix_jobs.proofs.Pieces.{slice_split_whole}
use Rattle.ix_jobs.proofs.LinesInTurn.{is_end}

-- the first line, then those after it
pub job_lines-first : (n : ℕ) (bs : List ℕ) → 0 < length bs
    → job_lines_from n (slice_split (λ b. b == 10) bs)
    ≡ own_line n (before_first (λ b. b == 10) bs) ++ job_lines_from (n + 1) (slice_split (λ b. b == 10) (after_first (λ b. b == 10) bs))
job_lines-first n bs some = ⊎_elim on_more on_last (cases_lt (position_or_len is_end bs) (length bs)) where
  on_more : position_or_len is_end bs < length bs → job_lines_from n (slice_split is_end bs) ≡ own_line n (before_first is_end bs) ++ job_lines_from (n + 1) (slice_split is_end (after_first is_end bs))
  on_more lt = ap (job_lines_from n) (slice_split_first is_end bs 0 lt)

  on_last : length bs ≤ position_or_len is_end bs → job_lines_from n (slice_split is_end bs) ≡ own_line n (before_first is_end bs) ++ job_lines_from (n + 1) (slice_split is_end (after_first is_end bs))
  on_last le =
      let same : position_or_len is_end bs ≡ length bs = omega (arith, le, prefix_len-le-length (λ b. not (is_end b)) bs) in
      let line : before_first is_end bs ≡ bs = take_all (position_or_len is_end bs) bs le in
      let rest : after_first is_end bs ≡ [] = drop_all (position_or_len is_end bs + 1) bs (omega (arith, le)) in
      let given : List ℕ → List ℕ → List ℕ = λ l r. own_line n l ++ job_lines_from (n + 1) (slice_split is_end r) in
      ap (job_lines_from n) (slice_split_whole is_end bs same) ∙ ap (λ l. given l []) (sym line) ∙ ap (given (before_first is_end bs)) (sym rest)

-- the first line is ignored
pub job_lines-ignored : (n : ℕ) (line bs rest : List ℕ) → 0 < length bs → line ≡ before_first (λ b. b == 10) bs → rest ≡ after_first (λ b. b == 10) bs → is_ignored (strip_carriage_return line) ≡ true
    → job_lines_from n (slice_split (λ b. b == 10) bs) ≡ job_lines_from (n + 1) (slice_split (λ b. b == 10) rest)
job_lines-ignored n line bs rest some is_line is_rest ignored =
    job_lines-first n bs some
    ∙ ap (λ l. own_line n l ++ job_lines_from (n + 1) (slice_split is_end (after_first is_end bs))) (sym is_line)
    ∙ ap (λ r. own_line n line ++ job_lines_from (n + 1) (slice_split is_end r)) (sym is_rest)
    ∙ ap (λ (b : Bool). cond b [] (n ∷ []) ++ job_lines_from (n + 1) (slice_split is_end rest)) ignored

-- the first line is that of a job
pub job_lines-own : (n : ℕ) (line bs rest : List ℕ) → 0 < length bs → line ≡ before_first (λ b. b == 10) bs → rest ≡ after_first (λ b. b == 10) bs → is_ignored (strip_carriage_return line) ≡ false
    → job_lines_from n (slice_split (λ b. b == 10) bs) ≡ n ∷ job_lines_from (n + 1) (slice_split (λ b. b == 10) rest)
job_lines-own n line bs rest some is_line is_rest own =
    job_lines-first n bs some
    ∙ ap (λ l. own_line n l ++ job_lines_from (n + 1) (slice_split is_end (after_first is_end bs))) (sym is_line)
    ∙ ap (λ r. own_line n line ++ job_lines_from (n + 1) (slice_split is_end r)) (sym is_rest)
    ∙ ap (λ (b : Bool). cond b [] (n ∷ []) ++ job_lines_from (n + 1) (slice_split is_end rest)) own

-- how many there are doesn't depend on the number of the first
pub job_lines-many : (n m : ℕ) (ls : List (List ℕ)) → length (job_lines_from n ls) ≡ length (job_lines_from m ls)
job_lines-many n m [] = refl
job_lines-many n m (l ∷ ls) = by_line (is_ignored (strip_carriage_return l)) (job_lines-many (n + 1) (m + 1) ls) where
  by_line : (ignored : Bool) → length (job_lines_from (n + 1) ls) ≡ length (job_lines_from (m + 1) ls)
      → length (cond ignored [] (n ∷ []) ++ job_lines_from (n + 1) ls) ≡ length (cond ignored [] (m ∷ []) ++ job_lines_from (m + 1) ls)
  by_line true same = same
  by_line false same = ap (λ k. suc k) same

-- what follows the first
pub get_or-behind : (x : ℕ) (xs : List ℕ) (i : ℕ) → 0 < i → get_or (x ∷ xs) i 0 ≡ get_or xs (i - 1) 0
get_or-behind x xs zero some = absurd (omega (arith, some))
get_or-behind x xs (suc i) some = let before : suc i - 1 ≡ i = omega arith in ap (λ k. get_or xs k 0) (sym before)

-- the jobs that are read have as many lines
joined-more : (most : ℕ) (before jobs : List JobMeaning) (job : JobMeaning) (taken full : Bool) → cond taken (Err Repeated) (cond full (Err TooMany) (Ok (before ++ job ∷ []))) ≡ Ok jobs → length jobs ≡ length before + 1
joined-more most before jobs job true full h = absurd cc
joined-more most before jobs job false true h = absurd cc
joined-more most before jobs job false false h = sym (ap length (ok_same (before ++ job ∷ []) jobs h)) ∙ length-append before (job ∷ [])

line-more : (most n : ℕ) (before jobs : List JobMeaning) (ignored : Bool) (read : Result JobMeaning JobErrorKind) → cond ignored (Ok before) (read >>= joined most before) ≡ Ok jobs → length jobs ≡ length before + length (cond ignored [] (n ∷ []))
line-more most n before jobs true read h = sym (ap length (ok_same before jobs h)) ∙ (let none : length before ≡ length before + 0 = omega arith in none)
line-more most n before jobs false (Ok job) h = joined-more most before jobs job (is_taken before job.name) (leb most (length before)) h
line-more most n before jobs false (Err kind) h = absurd cc

behind-many : (greatest most n : ℕ) (before jobs : List JobMeaning) (own : List ℕ) (ls : List (List ℕ)) (read : Result (List JobMeaning) JobErrorKind) → ((more : List JobMeaning) → jobs_from greatest most (n + 1) more ls ≡ Ok jobs → length jobs ≡ length more + length (job_lines_from (n + 1) ls))
    → ((more : List JobMeaning) → read ≡ Ok more → length more ≡ length before + length own) → (at_line n read >>= (λ more. jobs_from greatest most (n + 1) more ls)) ≡ Ok jobs → length jobs ≡ length before + length (own ++ job_lines_from (n + 1) ls)
behind-many greatest most n before jobs own ls (Ok more) rest first h = omega (arith, rest more h, first more refl, length-append own (job_lines_from (n + 1) ls))
behind-many greatest most n before jobs own ls (Err kind) rest first h = absurd cc

from-many : (greatest most n : ℕ) (before jobs : List JobMeaning) (lines : List (List ℕ)) → jobs_from greatest most n before lines ≡ Ok jobs → length jobs ≡ length before + length (job_lines_from n lines)
from-many greatest most n before jobs [] h = sym (ap length (ok_same before jobs h)) ∙ (let none : length before ≡ length before + 0 = omega arith in none)
from-many greatest most n before jobs (l ∷ ls) h =
    behind-many greatest most n before jobs (own_line n l) ls (with_line greatest most before (strip_carriage_return l)) (λ more e. from-many greatest most (n + 1) more jobs ls e)
    (λ more e. line-more most n before more (is_ignored (strip_carriage_return l)) (line_job greatest (strip_carriage_return l)) e) h

-- an accepted job file has a line for each job
pub job_lines-are : (greatest most : ℕ) (b : List ℕ) (jobs : List JobMeaning) → jobs_up_to greatest most b ≡ Ok jobs → length (job_lines b) ≡ length jobs
job_lines-are greatest most b jobs h = let same : length jobs ≡ 0 + length (job_lines b) = from-many greatest most 1 [] jobs (slice_split is_end b) h in omega (arith, same)
