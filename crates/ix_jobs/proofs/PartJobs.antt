-- A part of the jobs that are read.
use Rattle.std.proofs.Common.{◌≡◌, ◌∙◌, sym, ap, ℕ, ◌+◌, ◌-◌, ◌<◌, ◌≤◌, List, length, length-drop, drop, get_or, arith}
use Rattle.std.specs.Prelude.{slice_range, Result, Ok, Err}
use Rattle.std.proofs.lemmas.Bool.{le-leb, lt-leb}
use Rattle.std.proofs.lemmas.List.{length-take-le, get_or-take, get_or-drop}
use Rattle.ix_walk.specs.JobMeaning.{JobMeaning}
use Rattle.ix_jobs.specs.declared.fault.JobErrorKind.{JobErrorKind}
use Rattle.ix_jobs.specs.declared.fault.JobErrorKind.TheVariants.{TooMany}
use Rattle.ix_jobs.specs.Jobs.{◌>>=◌, jobs_up_to}
use Rattle.ix_jobs.specs.Parts.{cut, part_of, job_lines, few_of, part_jobs_up_to}
use Rattle.ix_jobs.proofs.PartLaws.{cut-within}
use Rattle.ix_jobs.proofs.JobLines.{job_lines-are}

abbrev good : List JobMeaning → Result (List JobMeaning) (JobErrorKind × ℕ)
good jobs = Ok jobs

abbrev fault : ℕ → Result (List JobMeaning) (JobErrorKind × ℕ)
fault line = Err (TooMany, line)

module _ (k n : ℕ) (some : 0 < n) (there : k ≤ n) where
  -- how long a part is
  length-part : {A : Type 0} (xs : List A) → length (part_of k n xs) ≡ cut k n (length xs) - cut (k - 1) n (length xs)
  length-part xs =
      let start : ℕ = cut (k - 1) n (length xs) in
      let end : ℕ = cut k n (length xs) in
      let within : end ≤ length xs = cut-within k n (length xs) some there in
      let behind : length (drop start xs) ≡ length xs - start = length-drop start xs in
      length-take-le (end - start) (drop start xs) (omega (arith, within, behind))

  module _ (greatest : ℕ) (b : List ℕ) (jobs : List JobMeaning) (read : jobs_up_to greatest 1000000 b ≡ Ok jobs) (count : ℕ) (counted : count ≡ length (job_lines b)) where
    same : count ≡ length jobs
    same = counted ∙ job_lines-are greatest 1000000 b jobs read

    taken : part_jobs_up_to greatest k n b ≡ few_of (part_of k n (job_lines b)) (part_of k n jobs)
    taken = ap (λ (r : Result (List JobMeaning) (JobErrorKind × ℕ)). r >>= (λ jobs. few_of (part_of k n (job_lines b)) (part_of k n jobs))) read

    long : length (part_of k n jobs) ≡ cut k n count - cut (k - 1) n count
    long = length-part jobs ∙ ap (λ m. cut k n m - cut (k - 1) n m) (sym same)

    -- a part that isn't too long
    pub part-read : (kept : List JobMeaning) (last : ℕ) → kept ≡ slice_range jobs (cut (k - 1) n count) last → last ≡ cut k n count → cut k n count - cut (k - 1) n count ≤ 1000 → part_jobs_up_to greatest k n b ≡ Ok kept
    part-read kept last is ends few =
        let short : length (part_of k n jobs) ≤ 1000 = omega (arith, few, long) in
        let whole : kept ≡ part_of k n jobs = is ∙ ap (slice_range jobs (cut (k - 1) n count)) ends ∙ ap (λ m. slice_range jobs (cut (k - 1) n m) (cut k n m)) same in
        taken ∙ rw (le-leb (length (part_of k n jobs)) 1000 short) (ap good (sym whole))

    -- a part that is
    pub part-too_long : (line : ℕ) → line ≡ get_or (job_lines b) (cut (k - 1) n count + 1000) 0 → 1000 < cut k n count - cut (k - 1) n count → part_jobs_up_to greatest k n b ≡ Err (TooMany, line)
    part-too_long line is many =
        let more : 1000 < length (part_of k n jobs) = omega (arith, many, long) in
        let lines : List ℕ = job_lines b in
        let start : ℕ = cut (k - 1) n (length lines) in
        let end : ℕ = cut k n (length lines) in
        let wide : 1000 < end - start = omega (arith, many, ap (λ m. cut k n m - cut (k - 1) n m) counted) in
        let found : get_or (part_of k n lines) 1000 0 ≡ get_or lines (start + 1000) 0 = get_or-take (end - start) (drop start lines) 1000 0 wide ∙ get_or-drop start lines 1000 0 in
        let told : get_or (part_of k n lines) 1000 0 ≡ line = found ∙ ap (λ m. get_or lines (cut (k - 1) n m + 1000) 0) (sym counted) ∙ sym is in
        taken ∙ rw (lt-leb (length (part_of k n jobs)) 1000 more) (ap fault told)
