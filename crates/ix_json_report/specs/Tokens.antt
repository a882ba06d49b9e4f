-- The tokens of the report's objects, part by part as they are written.
use Rattle.std.specs.Prelude.{ℕ, ◌+◌, Option, None, Some, option_map, List, [], ◌∷◌, ◌++◌, length, codes, string_bytes}
use Rattle.json.specs.Token.{Token, begin_object, end_object, begin_array, end_array, key}
use Rattle.ix_cid.specs.CidText.{text_of}
use Rattle.ix_walk.specs.JobMeaning.{JobMeaning}
use Rattle.ix_check.specs.VerdictWords.{verdict_word}
use Rattle.ix_car.specs.EndWords.{end_word}
use Rattle.ix_car.specs.declared.sink.End.{End}
use Rattle.ix_car.specs.declared.archive.Skip.{Skip}
use Rattle.ix_car.specs.declared.archive.Counts.{Counts}
use Rattle.ix_jobs.specs.declared.results.JobResult.{JobResult}
use Rattle.ix_jobs.specs.Report.{done_count, skip_count}
use Rattle.ix_json_report.specs.Members.{text_member, number_member}
use Rattle.ix_json_report.specs.Objects.{Detail, detail_at}
use Rattle.ix_json_report.specs.declared.error.ErrorNote.{ErrorNote}
use Rattle.ix_json_report.specs.declared.skips.SkipNotes.{SkipNotes}
use Rattle.ix_json_report.specs.declared.place.ArchivePlace.{ArchivePlace}
use Rattle.ix_json_report.specs.declared.place.ArchivePlace.TheVariants.{File, Part, Unknown}

-- the name of a job and how it ended
abbrev pub end_tokens : JobMeaning → End → List Token
end_tokens job end = text_member (codes "job") job.name ++ text_member (codes "end") (end_word end)

-- how many sections and bytes were written
abbrev pub written_tokens : Counts → List Token
written_tokens counts = number_member (codes "sections") counts.sections ++ number_member (codes "bytes") counts.bytes

-- the four counts
abbrev pub counts_tokens : Counts → List Token
counts_tokens counts = number_member (codes "visits") counts.visits ++ number_member (codes "kept") counts.kept ++ written_tokens counts

-- how many blocks were known, where they were counted
abbrev pub known_tokens : Option ℕ → List Token
known_tokens None = []
known_tokens (Some known) = number_member (codes "known") known

-- how many skips were absent, where they were counted
abbrev pub absent_tokens : Option ℕ → List Token
absent_tokens None = []
absent_tokens (Some absent) = number_member (codes "absent") absent

-- the path and the size of a `.part` file
abbrev pub part_tokens : List ℕ → ℕ → List Token
part_tokens path size = text_member (codes "part") path ++ number_member (codes "part_bytes") size

-- the path of the archive, or of its `.part` file, and the size of that
abbrev pub place_tokens : ArchivePlace → List Token
place_tokens (File path) = text_member (codes "file") path.now
place_tokens (Part path size) = part_tokens path.now size
place_tokens Unknown = []

-- the verdict and the text of the CID
abbrev pub reason_tokens : Skip → List Token
reason_tokens s = text_member (codes "verdict") (verdict_word s.verdict) ++ text_member (codes "cid") (text_of s.cid)

-- the number of the visit, and why it was skipped
abbrev pub skip_members : Skip → List Token
skip_members s = number_member (codes "visit") s.seq ++ reason_tokens s

-- the path of a visit, if it is known
abbrev pub path_tokens : Option (List ℕ) → List Token
path_tokens None = []
path_tokens (Some path) = text_member (codes "path") path

-- why the bytes are malformed, and the offset in them, if that is known
abbrev pub cause_tokens : Option (List ℕ × ℕ) → List Token
cause_tokens None = []
cause_tokens (Some cause) = text_member (codes "cause") cause.0 ++ number_member (codes "offset") cause.1

abbrev pub skip_tokens : Skip → Detail → List Token
skip_tokens s detail = begin_object ∷ (skip_members s ++ path_tokens detail.0 ++ cause_tokens detail.1 ++ end_object ∷ [])

-- those of skips, the first of which has this number
abbrev pub all_skips_tokens : SkipNotes → ℕ → List Skip → List Token
all_skips_tokens notes n [] = []
all_skips_tokens notes n (s ∷ skips) = skip_tokens s (detail_at notes n) ++ all_skips_tokens notes (n + 1) skips

-- the skips in order
abbrev pub skips_tokens : SkipNotes → List Skip → List Token
skips_tokens notes skips = key (codes "skips") ∷ begin_array ∷ (all_skips_tokens notes 0 skips ++ end_array ∷ [])

-- the object of a job
abbrev pub job_tokens : JobMeaning → JobResult → SkipNotes → ArchivePlace → List Token
job_tokens job r notes place =
    begin_object
    ∷ (end_tokens job r.end ++ counts_tokens r.counts ++ known_tokens r.counts.known ++ absent_tokens notes.absent ++ place_tokens place ++ skips_tokens notes r.skips.items ++ end_object ∷ [])

-- a member with a text, where there is one
abbrev pub optional_tokens : List ℕ → Option (List ℕ) → List Token
optional_tokens name None = []
optional_tokens name (Some text) = text_member name text

-- what an error is in a word, and its line
abbrev pub message_tokens : ErrorNote → List Token
message_tokens e = text_member (codes "error") e.code.now ++ text_member (codes "message") e.message.now

-- the object of an error
abbrev pub error_tokens : ErrorNote → List Token
error_tokens e =
    begin_object
    ∷ (message_tokens e ++ optional_tokens (codes "cid") (option_map string_bytes e.cid.now) ++ optional_tokens (codes "path") (option_map string_bytes e.path.now) ++ end_object ∷ [])

-- how many jobs, how many of them are done, how many skips
abbrev pub totals_tokens : List JobResult → List Token
totals_tokens rs = number_member (codes "jobs") (length rs) ++ number_member (codes "done") (done_count rs) ++ number_member (codes "skips") (skip_count rs)

-- the object with the totals
abbrev pub total_tokens : List JobResult → List Token
total_tokens rs = begin_object ∷ key (codes "total") ∷ begin_object ∷ (totals_tokens rs ++ end_object ∷ end_object ∷ [])
