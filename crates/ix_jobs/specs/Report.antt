-- The report and the program's status, as functions of names, ends, counts and skips.
use Rattle.std.specs.Prelude.{ℕ, Bool, true, false, Option, None, Some, List, [], ◌∷◌, ◌++◌, length, flat_map, count_by, sum_by, codes, decimal, if◌then◌else◌, nat_lt}
use Rattle.std.specs.List.{list_all}
use Rattle.ix_cid.specs.CidText.{text_of}
use Rattle.ix_walk.specs.JobMeaning.{JobMeaning}
use Rattle.ix_check.specs.VerdictWords.{verdict_word}
use Rattle.ix_car.specs.EndWords.{end_word}
use Rattle.ix_car.specs.declared.sink.End.{End}
use Rattle.ix_car.specs.declared.sink.End.TheVariants.{Done, Limit, Memory, Write, Start}
use Rattle.ix_car.specs.declared.archive.Skip.{Skip}
use Rattle.ix_car.specs.declared.archive.Counts.{Counts}
use Rattle.ix_jobs.specs.declared.results.JobResult.{JobResult}

abbrev pub is_done : End → Bool
is_done Done = true
is_done Limit = false
is_done Memory = false
is_done Write = false
is_done Start = false

-- two spaces, the number, the verdict and the text of the CID
abbrev pub skip_line : Skip → List ℕ
skip_line s = codes "  " ++ decimal s.seq ++ codes " " ++ verdict_word s.verdict ++ codes " " ++ text_of s.cid ++ 10 ∷ []

abbrev pub skip_lines : List Skip → List ℕ
skip_lines skips = flat_map skip_line skips

-- how many blocks were known, where they were counted
abbrev pub known_words : Option ℕ → List ℕ
known_words None = []
known_words (Some known) = codes " known=" ++ decimal known

-- the name, the end and the four counts
abbrev pub counts_words : List ℕ → End → Counts → List ℕ
counts_words name end counts =
    name ++ codes " " ++ end_word end ++ codes " visits=" ++ decimal counts.visits ++ codes " kept=" ++ decimal counts.kept ++ codes " sections=" ++ decimal counts.sections ++ codes " bytes="
    ++ decimal counts.bytes

-- the same, and how many blocks were known
abbrev pub job_line : List ℕ → End → Counts → List ℕ
job_line name end counts = counts_words name end counts ++ known_words counts.known ++ 10 ∷ []

abbrev pub end_line : JobMeaning → JobResult → List ℕ
end_line job r = job_line job.name r.end r.counts

abbrev pub job_lines : JobMeaning → JobResult → List ℕ
job_lines job r = end_line job r ++ skip_lines r.skips.items

-- the lines of each job, in order
abbrev pub all_lines : List JobMeaning → List JobResult → List ℕ
all_lines [] rs = []
all_lines (job ∷ jobs) [] = []
all_lines (job ∷ jobs) (r ∷ rs) = job_lines job r ++ all_lines jobs rs

abbrev pub done_count : List JobResult → ℕ
done_count rs = count_by (λ r. is_done r.end) rs

abbrev pub skip_count : List JobResult → ℕ
skip_count rs = sum_by (λ r. length r.skips.items) rs

-- how many jobs, how many of them are done, how many skips
abbrev pub total_line : ℕ → ℕ → ℕ → List ℕ
total_line jobs done skips = codes "total jobs=" ++ decimal jobs ++ codes " done=" ++ decimal done ++ codes " skips=" ++ decimal skips ++ 10 ∷ []

abbrev pub report_of : List JobMeaning → List JobResult → List ℕ
report_of jobs rs = all_lines jobs rs ++ total_line (length jobs) (done_count rs) (skip_count rs)

-- the line of a job whose absent skips were counted, and those of its other skips
abbrev pub absent_line : JobMeaning → JobResult → ℕ → List ℕ
absent_line job r absent = counts_words job.name r.end r.counts ++ known_words r.counts.known ++ codes " absent=" ++ decimal absent ++ 10 ∷ []

abbrev pub absent_lines : JobMeaning → JobResult → ℕ → List ℕ
absent_lines job r absent = absent_line job r absent ++ skip_lines r.skips.items

-- the lines of each such job, in order
abbrev pub all_absent_lines : List JobMeaning → List JobResult → List ℕ → List ℕ
all_absent_lines [] rs counts = []
all_absent_lines (job ∷ jobs) [] counts = []
all_absent_lines (job ∷ jobs) (r ∷ rs) [] = []
all_absent_lines (job ∷ jobs) (r ∷ rs) (n ∷ counts) = absent_lines job r n ++ all_absent_lines jobs rs counts

-- the report of jobs whose absent skips were counted
abbrev pub report_with_absent : List JobMeaning → List JobResult → List ℕ → List ℕ
report_with_absent jobs rs counts = all_absent_lines jobs rs counts ++ total_line (length jobs) (done_count rs) (skip_count rs)

-- 4 with an end other than done, else 3 with some skip, else 0
abbrev pub status_of : List JobResult → ℕ
status_of rs = if list_all (λ r. is_done r.end) rs then (if nat_lt 0 (skip_count rs) then 3 else 0) else 4
