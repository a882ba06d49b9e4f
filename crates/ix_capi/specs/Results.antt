-- What the calls of the C library return of a handle's contents.
use Rattle.std.specs.Prelude.{◌≡◌, ◌≢◌, ◌==◌, if◌then◌else◌, ℕ, List, [], ◌++◌, length, take, drop, slice_get}
use Rattle.std.specs.Prelude.{Option, Some, None, Result, Ok, Err}
use Rattle.std.specs.Option.{unwrap_or}
use Rattle.ix_car.specs.declared.archive.Skip.{Skip}
use Rattle.ix_car.specs.declared.sink.End.{End}
use Rattle.ix_car.specs.declared.sink.End.TheVariants as ends
use Rattle.ix_verdict.specs.declared.verdict.Verdict.{Verdict}
use Rattle.ix_verdict.specs.declared.verdict.Verdict.TheVariants as verdicts
use Rattle.ix_api.specs.declared.exported.Exported.{Exported}
use Rattle.ix_receive.specs.declared.counts.Counts as own
use Rattle.ix_api.specs.declared.checked.Rejection.{Rejection}
use Rattle.ix_api.specs.declared.object.Object.{Object}
use Rattle.ix_api.specs.declared.object.Object.TheVariants as held
use Rattle.ix_api.specs.declared.object.Piece.{Piece}
use Rattle.ix_api.specs.declared.object.Piece.TheVariants as parts
use Rattle.ix_api.specs.Parts.{piece_of}
use Rattle.ix_capi.specs.declared.results.Counts.{Counts}
use Rattle.ix_capi.specs.declared.findings.CheckCounts.{CheckCounts}
use Rattle.ix_capi.specs.declared.results.BytesPlace.{BytesPlace}
use Rattle.ix_capi.specs.declared.results.SkipPlace.{SkipPlace}
use Rattle.ix_capi.specs.declared.findings.RejectionPlace.{RejectionPlace}
use Rattle.ix_capi.specs.declared.results.SkipRecord.{SkipRecord}
use Rattle.ix_capi.specs.declared.status.Status.{Status}
use Rattle.ix_capi.specs.declared.status.Status.TheVariants.{Done, Handle, Range}

-- the numbers that C has for ends, for why a visit is skipped, and for parts
abbrev pub end_code : End → ℕ
end_code ends.Done = 0
end_code ends.Limit = 1
end_code ends.Memory = 2
end_code ends.Write = 3
end_code ends.Start = 4

abbrev pub why_code : Verdict → ℕ
why_code verdicts.Codec = 0
why_code verdicts.Hash = 1
why_code verdicts.Missing = 2
why_code verdicts.Damaged = 3
why_code verdicts.Malformed = 4
why_code verdicts.Sound = 5
why_code verdicts.Inline = 6

abbrev pub part_numbered : ℕ → Option Piece
part_numbered n =
    if n == 0 then Some parts.Archive else
    (if n == 1 then Some parts.Report else (if n == 2 then Some parts.Text else None))

-- What is reported of an export: how the job ended, and what was counted;
abbrev pub end_of : Exported → ℕ
end_of out = end_code out.result.end

abbrev pub counts_of : Exported → Counts
counts_of out =
    let counts = out.result.counts in
    record {
      end = end_of out;
      visits = counts.visits;
      kept = counts.kept;
      sections = counts.sections;
      bytes = counts.bytes;
      skips = length out.result.skips.items;
    }

-- how many blocks have no section since the receiver has them: none if the job has no base;
abbrev pub known_of : Exported → ℕ
known_of out = unwrap_or out.result.counts.known 0

-- and of a skip, and how long its CID is
abbrev pub skip_of : Skip → SkipRecord
skip_of s = record { visit = s.seq; why = why_code s.verdict }

abbrev pub cid_length : Skip → ℕ
cid_length s = length s.cid

-- Of an archive that is a job's own: its counts;
abbrev pub check_counts_of : own.Counts → CheckCounts
check_counts_of counts = record { visits = counts.visits; missing = counts.missing }

-- and of one that is rejected: where, and how long the CID is that it blames, or 0 if there is none
abbrev pub place_of : Rejection → ℕ
place_of rejection = rejection.place

abbrev pub blamed_cid : Rejection → List ℕ
blamed_cid rejection = unwrap_or rejection.cid []

abbrev pub blamed_length : Rejection → ℕ
blamed_length rejection = length (blamed_cid rejection)

-- what is read of what a handle holds; of an empty one nothing is
abbrev pub IsRead : {A : Type 0} → (Object → Result A Status → Type 0) → Option Object → Result A Status → Type 0
IsRead reads None answer = answer ≡ Err Handle
IsRead reads (Some content) answer = reads content answer

-- What a call finds in a handle, or what it answers where that isn't there: what an export left,
abbrev pub export_in : Option Object → Result Exported Status
export_in (Some (held.Exported out)) = Ok out
export_in content = Err Handle

-- what a check counted of a job's own archive, or why it rejected another,
abbrev pub own_in : Option Object → Result own.Counts Status
own_in (Some (held.Accepted counts)) = Ok counts
own_in content = Err Handle

abbrev pub rejection_in : Option Object → Result Rejection Status
rejection_in (Some (held.Rejected rejection)) = Ok rejection
rejection_in content = Err Handle

-- a skip of it by its number,
abbrev pub skip_in : ℕ → Option Object → Result Skip Status
skip_in number (Some (held.Exported out)) = numbered (slice_get out.result.skips.items number) where
  numbered : Option Skip → Result Skip Status
  numbered (Some skip) = Ok skip
  numbered None = Err Range
skip_in number content = Err Handle

-- or the bytes of a part
abbrev pub bytes_of : Piece → Object → Result (List ℕ) Status
bytes_of part content = found (piece_of part content) where
  found : Option (List ℕ) → Result (List ℕ) Status
  found (Some bytes) = Ok bytes
  found None = Err Handle

abbrev pub bytes_in : Option Piece → Option Object → Result (List ℕ) Status
bytes_in None content = Err Range
bytes_in (Some part) None = Err Handle
bytes_in (Some part) (Some content) = bytes_of part content

-- the line of an error or of an archive that is rejected, and no other text
abbrev pub line_in : Option Object → Result (List ℕ) Status
line_in (Some (held.Refusal line)) = Ok line.items
line_in (Some (held.Rejected rejection)) = Ok rejection.line.items
line_in content = Err Handle

-- the report on what was found
abbrev pub of_found : {X A : Type 0} → (X → A) → Result X Status → Result A Status
of_found set_result (Ok found) = Ok (set_result found)
of_found set_result (Err why) = Err why

-- this is reported: the call is done, and it stands where it was wanted; or nothing is: the call answers why, and what
-- was there is left
abbrev pub IsSet : {A : Type 0} → Result A Status → A → A → Status → Type 0
IsSet (Ok told) before after status = (status ≡ Done) × (after ≡ told)
IsSet (Err why) before after status = (status ≡ why) × (after ≡ before)

-- unless a call is done, what a pointer leads to is left
abbrev pub IsLeft : {A : Type 0} → A → A → Status → Type 0
IsLeft before after status = status ≢ Done → after ≡ before

-- where bytes stand that were found, known by how many they are; where a skip or a rejection does, known by what is reported of
-- it too
abbrev pub IsPlaced : Result (List ℕ) Status → Result BytesPlace Status → Type 0
IsPlaced found place = of_found (λ p. p.length) place ≡ of_found length found

abbrev pub IsSkipPlaced : Result Skip Status → Result SkipPlace Status → Type 0
IsSkipPlaced found place =
    (of_found (λ p. p.told) place ≡ of_found skip_of found)
    × (of_found (λ p. p.cid.length) place ≡ of_found cid_length found)

abbrev pub IsBlamePlaced : Result Rejection Status → Result RejectionPlace Status → Type 0
IsBlamePlaced found place =
    (of_found (λ p. p.place) place ≡ of_found place_of found)
    × (of_found (λ p. p.cid.length) place ≡ of_found blamed_length found)

-- the bytes from a place on for which a buffer has room
abbrev pub copied : ℕ → List ℕ → List ℕ → List ℕ
copied from buffer bytes = take (length buffer) (drop from bytes)

-- how many there are
abbrev pub count_copied : ℕ → List ℕ → List ℕ → ℕ
count_copied from buffer bytes = length (copied from buffer bytes)

-- the bytes that were found are copied to the front of a buffer, from a place on; where none were found, it is left
abbrev pub HasCopied : ℕ → Result (List ℕ) Status → List ℕ → List ℕ → Type 0
HasCopied from (Ok bytes) before after =
    after ≡ copied from before bytes ++ drop (count_copied from before bytes) before
HasCopied from (Err why) before after = after ≡ before
