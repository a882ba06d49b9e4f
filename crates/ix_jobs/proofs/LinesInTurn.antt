-- The lines of a job file, one after another.
use Rattle.std.proofs.Common.{◌≡◌, not, ℕ, ◌+◌, ◌<◌, ◌≤◌, Bool, ◌==◌, List, [], length, length-drop, sym, ◌∙◌, ap, arith, ⊎_elim}
use Rattle.std.specs.Prelude.{Result, Ok}
use Rattle.std.specs.List.{slice_split, position_or_len, before_first, after_first}
use Rattle.std.specs.Str.Lines.{strip_carriage_return}
use Rattle.std.proofs.lemmas.List.Splits.{slice_split_first}
use Rattle.std.proofs.lemmas.Bool.{cases_lt}
use Rattle.std.proofs.lemmas.List.{take_all, drop_all}
use Rattle.std.proofs.lemmas.List.Sums.{prefix_len-le-length}
use Rattle.ix_walk.specs.JobMeaning.{JobMeaning}
use Rattle.ix_jobs.specs.declared.fault.JobErrorKind.{JobErrorKind}
use Rattle.ix_jobs.specs.declared.fault.JobErrorKind.TheVariants.{Memory}
use Rattle.ix_jobs.specs.Jobs.{◌>>=◌, with_line, at_line, jobs_from}
use Rattle.ix_jobs.specs.Gives.{FailsAs}
use Rattle.ix_jobs.proofs.Pieces.{slice_split_whole}

abbrev pub is_end : ℕ → Bool
is_end b = b == 10

-- the first line, then those after it
pub jobs_from-first : (greatest most n : ℕ) (before : List JobMeaning) (bs : List ℕ) → 0 < length bs
    → jobs_from greatest most n before (slice_split (λ b. b == 10) bs)
    ≡ (at_line n (with_line greatest most before (strip_carriage_return (before_first (λ b. b == 10) bs))) >>= (λ jobs. jobs_from greatest most (n + 1) jobs (slice_split (λ b. b == 10) (after_first (λ b. b == 10) bs))))
jobs_from-first greatest most n before bs some = ⊎_elim on_more on_last (cases_lt (position_or_len is_end bs) (length bs)) where
  on_more : position_or_len is_end bs < length bs → jobs_from greatest most n before (slice_split is_end bs)
      ≡ (at_line n (with_line greatest most before (strip_carriage_return (before_first is_end bs))) >>= (λ jobs. jobs_from greatest most (n + 1) jobs (slice_split is_end (after_first is_end bs))))
  on_more lt = ap (jobs_from greatest most n before) (slice_split_first is_end bs 0 lt)

  on_last : length bs ≤ position_or_len is_end bs → jobs_from greatest most n before (slice_split is_end bs)
      ≡ (at_line n (with_line greatest most before (strip_carriage_return (before_first is_end bs))) >>= (λ jobs. jobs_from greatest most (n + 1) jobs (slice_split is_end (after_first is_end bs))))
  on_last le =
      let same : position_or_len is_end bs ≡ length bs = omega (arith, le, prefix_len-le-length (λ b. not (is_end b)) bs) in
      let line : before_first is_end bs ≡ bs = take_all (position_or_len is_end bs) bs le in
      let rest : after_first is_end bs ≡ [] = drop_all (position_or_len is_end bs + 1) bs (omega (arith, le)) in
      let given : List ℕ → List ℕ → Result (List JobMeaning) (JobErrorKind × ℕ) = λ l r. at_line n (with_line greatest most before (strip_carriage_return l)) >>= (λ jobs. jobs_from greatest most (n + 1) jobs (slice_split is_end r)) in
      ap (jobs_from greatest most n before) (slice_split_whole is_end bs same) ∙ ap (λ l. given l []) (sym line) ∙ ap (given (before_first is_end bs)) (sym rest)

-- the first line is read, and the rest is left
pub jobs_from-ok : (greatest most n : ℕ) (before jobs : List JobMeaning) (bs : List ℕ) → 0 < length bs → with_line greatest most before (strip_carriage_return (before_first (λ b. b == 10) bs)) ≡ Ok jobs
    → jobs_from greatest most n before (slice_split (λ b. b == 10) bs) ≡ jobs_from greatest most (n + 1) jobs (slice_split (λ b. b == 10) (after_first (λ b. b == 10) bs))
jobs_from-ok greatest most n before jobs bs some h =
    let more : List JobMeaning → Result (List JobMeaning) (JobErrorKind × ℕ) = λ jobs. jobs_from greatest most (n + 1) jobs (slice_split is_end (after_first is_end bs)) in
    jobs_from-first greatest most n before bs some ∙ ap (λ (r : Result (List JobMeaning) JobErrorKind). at_line n r >>= more) h

-- the first line is faulty
pub jobs_from-err : (kind : JobErrorKind) (greatest most n : ℕ) (before : List JobMeaning) (bs : List ℕ) → 0 < length bs → FailsAs kind kind (with_line greatest most before (strip_carriage_return (before_first (λ b. b == 10) bs)))
    → FailsAs kind (kind, n) (jobs_from greatest most n before (slice_split (λ b. b == 10) bs))
jobs_from-err Memory greatest most n before bs some h = tt
jobs_from-err kind greatest most n before bs some h =
    let more : List JobMeaning → Result (List JobMeaning) (JobErrorKind × ℕ) = λ jobs. jobs_from greatest most (n + 1) jobs (slice_split is_end (after_first is_end bs)) in
    jobs_from-first greatest most n before bs some ∙ ap (λ (r : Result (List JobMeaning) JobErrorKind). at_line n r >>= more) h

-- what follows the first line is shorter
pub rest-shorter : (bs : List ℕ) → 0 < length bs → length (after_first (λ b. b == 10) bs) + 1 ≤ length bs
rest-shorter bs some = omega (arith, length-drop (position_or_len is_end bs + 1) bs)
