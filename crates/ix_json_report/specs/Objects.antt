-- The objects of the report: names, words and counts as the text report has them.
use Rattle.std.specs.Prelude.{ℕ, ◌+◌, Option, None, Some, option_map, option_and_then, List, [], ◌∷◌, length, codes, slice_get, string_bytes, String}
use Rattle.std.specs.Global.{Global}
use Rattle.json.specs.Json.{Json, array, object, Items, no_items, item, Members, no_members, member}
use Rattle.ix_cid.specs.CidText.{text_of}
use Rattle.ix_walk.specs.JobMeaning.{JobMeaning}
use Rattle.ix_check.specs.VerdictWords.{verdict_word}
use Rattle.ix_car.specs.EndWords.{end_word}
use Rattle.ix_car.specs.declared.archive.Skip.{Skip}
use Rattle.ix_jobs.specs.declared.results.JobResult.{JobResult}
use Rattle.ix_jobs.specs.Report.{done_count, skip_count}
use Rattle.ix_json_report.specs.Members.{text_before, number_before}
use Rattle.ix_json_report.specs.declared.error.ErrorNote.{ErrorNote}
use Rattle.ix_json_report.specs.declared.skips.SkipCause.{SkipCause}
use Rattle.ix_json_report.specs.declared.skips.SkipNotes.{SkipNotes}
use Rattle.ix_json_report.specs.declared.place.ArchivePlace.{ArchivePlace}
use Rattle.ix_json_report.specs.declared.place.ArchivePlace.TheVariants.{File, Part, Unknown}

-- the path of the skip of this number, if it is known
abbrev pub path_at : List (Option (String Global)) → ℕ → Option (List ℕ)
path_at paths n = option_and_then (option_map string_bytes) (slice_get paths n)

-- why bytes are malformed, and the offset in them
abbrev pub cause_view : SkipCause → List ℕ × ℕ
cause_view cause = (cause.words.now, cause.offset)

-- why the bytes of the skip of this number are malformed, if that is known
abbrev pub cause_at : List (Option SkipCause) → ℕ → Option (List ℕ × ℕ)
cause_at causes n = option_and_then (option_map cause_view) (slice_get causes n)

-- what is known of a skip besides: its path, and why its bytes are malformed
abbrev pub Detail : Type 0
Detail = Option (List ℕ) × Option (List ℕ × ℕ)

-- what is known of the skip of this number
abbrev pub detail_at : SkipNotes → ℕ → Detail
detail_at notes n = (path_at notes.paths.now n, cause_at notes.causes.now n)

-- the path of a visit, if it is known
abbrev pub path_before : Option (List ℕ) → Members → Members
path_before None more = more
path_before (Some path) more = text_before (codes "path") path more

-- why the bytes are malformed, and the offset in them, if that is known
abbrev pub cause_before : Option (List ℕ × ℕ) → Members → Members
cause_before None more = more
cause_before (Some cause) more = text_before (codes "cause") cause.0 (number_before (codes "offset") cause.1 more)

-- the number of the visit, the verdict, the text of the CID, the path of the visit, and why the bytes are malformed
abbrev pub skip_object : Skip → Detail → Json
skip_object s detail =
    object (number_before (codes "visit") s.seq (text_before (codes "verdict") (verdict_word s.verdict) (text_before (codes "cid") (text_of s.cid)
    (path_before detail.0 (cause_before detail.1 no_members)))))

-- the skips in order, the first of which has this number
abbrev pub skip_items : SkipNotes → ℕ → List Skip → Items
skip_items notes n [] = no_items
skip_items notes n (s ∷ skips) = item (skip_object s (detail_at notes n)) (skip_items notes (n + 1) skips)

abbrev pub skips_member : SkipNotes → List Skip → Members
skips_member notes skips = member (codes "skips") (array (skip_items notes 0 skips)) no_members

-- how many blocks were known, where they were counted
abbrev pub known_before : Option ℕ → Members → Members
known_before None more = more
known_before (Some known) more = number_before (codes "known") known more

-- how many skips were absent, where they were counted
abbrev pub absent_before : Option ℕ → Members → Members
absent_before None more = more
absent_before (Some absent) more = number_before (codes "absent") absent more

-- the path of the archive, or of its `.part` file, and the size of that
abbrev pub place_before : ArchivePlace → Members → Members
place_before (File path) more = text_before (codes "file") path.now more
place_before (Part path size) more = text_before (codes "part") path.now (number_before (codes "part_bytes") size more)
place_before Unknown more = more

-- the name of a job, how it ended, its counts, how many skips were absent, where its archive is, and its other skips
abbrev pub job_object : JobMeaning → JobResult → SkipNotes → ArchivePlace → Json
job_object job r notes place =
    object (text_before (codes "job") job.name (text_before (codes "end") (end_word r.end)
    (number_before (codes "visits") r.counts.visits (number_before (codes "kept") r.counts.kept (number_before (codes "sections") r.counts.sections
    (number_before (codes "bytes") r.counts.bytes (known_before r.counts.known (absent_before notes.absent (place_before place (skips_member notes r.skips.items))))))))))

-- a text, where there is one
abbrev pub optional_before : List ℕ → Option (List ℕ) → Members → Members
optional_before name None more = more
optional_before name (Some text) more = text_before name text more

-- what an error is in a word, its line, and the CID and the path that it is about, where they are known
abbrev pub error_object : ErrorNote → Json
error_object e =
    object (text_before (codes "error") e.code.now (text_before (codes "message") e.message.now
    (optional_before (codes "cid") (option_map string_bytes e.cid.now) (optional_before (codes "path") (option_map string_bytes e.path.now) no_members))))

-- how many jobs, how many of them are done, how many skips
abbrev pub total_object : List JobResult → Json
total_object rs =
    object (member (codes "total")
    (object (number_before (codes "jobs") (length rs) (number_before (codes "done") (done_count rs) (number_before (codes "skips") (skip_count rs) no_members)))) no_members)
