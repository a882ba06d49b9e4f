-- The faults of the lines of a job file, one line after another.
use Rattle.std.proofs.Common.{◌≡◌, ◌∙◌, sym, ap, not, ℕ, ◌+◌, ◌<◌, ◌≤◌, Bool, ◌==◌, List, [], ◌∷◌, ◌++◌, length, append_assoc, arith, ⊎_elim}
use Rattle.std.specs.Prelude.{Option, Some, None, Ok, nat_lt, filter, if◌then◌else◌, true, false}
use Rattle.std.specs.List.{slice_split, position_or_len, before_first, after_first, slice_get}
use Rattle.std.proofs.lemmas.List.Elements.{filter-append}
use Rattle.std.proofs.lemmas.List.Splits.{slice_split_first}
use Rattle.std.proofs.lemmas.Bool.{cases_lt}
use Rattle.std.proofs.lemmas.List.{take_all, drop_all, append-nil}
use Rattle.std.proofs.lemmas.List.Sums.{prefix_len-le-length}
use Rattle.ix_walk.specs.JobMeaning.{JobMeaning}
use Rattle.ix_jobs.specs.declared.fault.JobErrorKind.{JobErrorKind}
use Rattle.ix_jobs.specs.declared.fault.JobErrorKind.TheVariants.{Repeated}
use Rattle.ix_jobs.specs.declared.fault.JobsFault.{JobsFault}
use Rattle.ix_jobs.specs.Jobs.{jobs_up_to, is_taken}
use Rattle.ix_jobs.proofs.Pieces.{slice_split_whole}
use Rattle.ix_jobs.proofs.LinesInTurn.{is_end}
use Rattle.ix_job_errors.specs.Faults.{fault_after, jobs_after, told, faults_from}

-- the reported errors of a line and of those after it
abbrev in_turn : ℕ → ℕ → List JobMeaning → List ℕ → List ℕ → List JobsFault
in_turn greatest n before line rest = told n (fault_after before (jobs_up_to greatest 1000 line)) ++ faults_from greatest (n + 1) (jobs_after before (jobs_up_to greatest 1000 line)) (slice_split is_end rest)

-- the first line, then those after it
pub faults_from-first : (greatest n : ℕ) (before : List JobMeaning) (bs : List ℕ) → 0 < length bs → faults_from greatest n before (slice_split is_end bs) ≡ in_turn greatest n before (before_first is_end bs) (after_first is_end bs)
faults_from-first greatest n before bs some = ⊎_elim on_more on_last (cases_lt (position_or_len is_end bs) (length bs)) where
  on_more : position_or_len is_end bs < length bs → faults_from greatest n before (slice_split is_end bs) ≡ in_turn greatest n before (before_first is_end bs) (after_first is_end bs)
  on_more lt = ap (faults_from greatest n before) (slice_split_first is_end bs 0 lt)

  on_last : length bs ≤ position_or_len is_end bs → faults_from greatest n before (slice_split is_end bs) ≡ in_turn greatest n before (before_first is_end bs) (after_first is_end bs)
  on_last le =
      let same : position_or_len is_end bs ≡ length bs = omega (arith, le, prefix_len-le-length (λ b. not (is_end b)) bs) in
      let line : before_first is_end bs ≡ bs = take_all (position_or_len is_end bs) bs le in
      let rest : after_first is_end bs ≡ [] = drop_all (position_or_len is_end bs + 1) bs (omega (arith, le)) in
      ap (faults_from greatest n before) (slice_split_whole is_end bs same) ∙ ap (λ l. in_turn greatest n before l []) (sym line) ∙ ap (in_turn greatest n before (before_first is_end bs)) (sym rest)

-- a turn of the loop over lines: what is reported, and what is left to report
pub a_line_more : (greatest first n : ℕ) (before : List JobMeaning) (old new whole : List JobsFault) (bs line rest : List ℕ) (kind : Option JobErrorKind) → 0 < length bs → line ≡ before_first (λ b. b == 10) bs → rest ≡ after_first (λ b. b == 10) bs → kind ≡ fault_after before (jobs_up_to greatest 1000 line)
    → new ≡ old ++ filter (λ f. nat_lt first f.line) (told n kind) → old ++ filter (λ f. nat_lt first f.line) (faults_from greatest n before (slice_split (λ b. b == 10) bs)) ≡ whole
    → new ++ filter (λ f. nat_lt first f.line) (faults_from greatest (n + 1) (jobs_after before (jobs_up_to greatest 1000 line)) (slice_split (λ b. b == 10) rest)) ≡ whole
a_line_more greatest first n before old new whole bs line rest kind some is_line is_rest is_kind longer so_far =
    let p : JobsFault → Bool = λ f. nat_lt first f.line in
    let behind : List JobsFault = faults_from greatest (n + 1) (jobs_after before (jobs_up_to greatest 1000 line)) (slice_split is_end rest) in
    let in_lines : faults_from greatest n before (slice_split is_end bs) ≡ told n kind ++ behind =
    faults_from-first greatest n before bs some ∙ ap (λ l. in_turn greatest n before l (after_first is_end bs)) (sym is_line) ∙ ap (in_turn greatest n before line) (sym is_rest) ∙ ap (λ k. told n k ++ behind) (sym is_kind) in
    ap (λ l. l ++ filter p behind) longer
    ∙ append_assoc old (filter p (told n kind)) (filter p behind)
    ∙ ap (λ l. old ++ l) (sym (filter-append p (told n kind) behind))
    ∙ ap (λ l. old ++ filter p l) (sym in_lines)
    ∙ so_far

-- where no byte is left, all is reported
pub all_told : (greatest first n : ℕ) (before : List JobMeaning) (all whole : List JobsFault) (rest : List ℕ) → length rest ≡ 0 → all ++ filter (λ f. nat_lt first f.line) (faults_from greatest n before (slice_split (λ b. b == 10) rest)) ≡ whole → all ≡ whole
all_told greatest first n before all whole [] none so_far = sym (append-nil all) ∙ so_far
all_told greatest first n before all whole (b ∷ bs) none so_far = absurd (omega (arith, none))

-- a list with a first job is that job and more
first_of : (jobs : List JobMeaning) (job : JobMeaning) → Some job ≡ slice_get jobs 0 → (more : List JobMeaning) × (jobs ≡ job ∷ more)
first_of [] job h = absurd cc
first_of (j ∷ js) job h = (js, let same : job ≡ j = cc in ap (λ x. x ∷ js) (sym same))

module _ (greatest : ℕ) (before jobs : List JobMeaning) (line : List ℕ) (job : JobMeaning) (read : jobs_up_to greatest 1000 line ≡ Ok jobs) (first : Some job ≡ slice_get jobs 0) where
  -- the line has the job alone, whose name is taken
  pub behind-taken : is_taken before job.name ≡ true → (Some Repeated ≡ fault_after before (jobs_up_to greatest 1000 line)) × (before ≡ jobs_after before (jobs_up_to greatest 1000 line))
  behind-taken taken =
      let found = first_of jobs job first in
      let is : jobs_up_to greatest 1000 line ≡ Ok (job ∷ found.0) = read ∙ ap (λ (l : List JobMeaning). Ok l) found.1 in (
        sym (ap (fault_after before) is ∙ ap (λ (t : Bool). if t then Some Repeated else None) taken),
        sym (ap (jobs_after before) is ∙ ap (λ (t : Bool). if t then before else before ++ job ∷ []) taken),
      )

  -- whose name isn't taken
  pub behind-free : is_taken before job.name ≡ false → (None ≡ fault_after before (jobs_up_to greatest 1000 line)) × (before ++ job ∷ [] ≡ jobs_after before (jobs_up_to greatest 1000 line))
  behind-free free =
      let found = first_of jobs job first in
      let is : jobs_up_to greatest 1000 line ≡ Ok (job ∷ found.0) = read ∙ ap (λ (l : List JobMeaning). Ok l) found.1 in (
        sym (ap (fault_after before) is ∙ ap (λ (t : Bool). if t then Some Repeated else None) free),
        sym (ap (jobs_after before) is ∙ ap (λ (t : Bool). if t then before else before ++ job ∷ []) free),
      )
