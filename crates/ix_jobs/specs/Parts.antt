-- The parts of a list, and of a job file.
use Rattle.std.specs.Prelude.{◌≡◌, ℕ, ◌+◌, ◌-◌, ◌*◌, ◌/◌, List, [], ◌∷◌, ◌++◌, length, get_or, slice_range, flat_map, nat_le, ◌==◌, if◌then◌else◌, Result, Ok, Err}
use Rattle.std.specs.List.{slice_split, range_with_len}
use Rattle.std.specs.Str.Lines.{strip_carriage_return}
use Rattle.ix_walk.specs.JobMeaning.{JobMeaning}
use Rattle.ix_jobs.specs.declared.fault.JobErrorKind.{JobErrorKind}
use Rattle.ix_jobs.specs.declared.fault.JobErrorKind.TheVariants.{TooMany}
use Rattle.ix_jobs.specs.Jobs.{◌>>=◌, is_ignored, jobs_up_to}

-- where the first k of n parts of a list of this length end
abbrev pub cut : ℕ → ℕ → ℕ → ℕ
cut k n len = k * len / n

-- the k-th of n parts of a list, from 1: what stands from ⌊(k - 1) · length / n⌋ up to, and not including, ⌊k · length / n⌋
abbrev pub part_of : {A : Type 0} → ℕ → ℕ → List A → List A
part_of k n xs = slice_range xs (cut (k - 1) n (length xs)) (cut k n (length xs))

-- the parts 1 to n, put end to end
abbrev pub all_parts : {A : Type 0} → ℕ → List A → List A
all_parts n xs = flat_map (λ k. part_of k n xs) (range_with_len 1 n)

-- the number of a line, unless the line is ignored
abbrev pub own_line : ℕ → List ℕ → List ℕ
own_line n line = if is_ignored (strip_carriage_return line) then [] else n ∷ []

-- the numbers of the lines that aren't ignored, from a number on
abbrev pub job_lines_from : ℕ → List (List ℕ) → List ℕ
job_lines_from n [] = []
job_lines_from n (l ∷ ls) = own_line n l ++ job_lines_from (n + 1) ls

-- the numbers of the lines of a job file's jobs
abbrev pub job_lines : List ℕ → List ℕ
job_lines b = job_lines_from 1 (slice_split (λ b. b == 10) b)

-- jobs with the numbers of their lines, of which there may be a thousand
abbrev pub few_of : List ℕ → List JobMeaning → Result (List JobMeaning) (JobErrorKind × ℕ)
few_of lines jobs = if nat_le (length jobs) 1000 then Ok jobs else Err (TooMany, get_or lines 1000 0)

-- The k-th of n parts of the jobs of a job file that may have a million, with limits up to the greatest, or its first faulty
-- line; or, where no line is faulty, the line of the job that is too many for the part.
abbrev pub part_jobs_up_to : ℕ → ℕ → ℕ → List ℕ → Result (List JobMeaning) (JobErrorKind × ℕ)
part_jobs_up_to greatest k n b = jobs_up_to greatest 1000000 b >>= (λ jobs. few_of (part_of k n (job_lines b)) (part_of k n jobs))

-- the jobs of a file that may have a million, from one on up to, and not including, another
abbrev pub AreJobsBetween : ℕ → ℕ → ℕ → List ℕ → List JobMeaning → Type 0
AreJobsBetween greatest start end b kept = (jobs : List JobMeaning) × (jobs_up_to greatest 1000000 b ≡ Ok jobs) × (kept ≡ slice_range jobs start end)
