-- A receiver of a stream as contracts see it, and what is found of a stream.
use Rattle.std.specs.Prelude.{◌≡◌, ℕ, ◌+◌, ◌<◌, ◌≤◌, ◌^◌, Bool, true, false, List, [], ◌++◌, length, map, flat_map, Some, Result, Ok, Err, OnOk, IfErr, refl}
use Rattle.std.specs.List.{AllByRecursion}
use Rattle.std.specs.Coded.{Coded, code_by, coded×, coded_ℕ, coded_bool, coded_list}
use Rattle.std.proofs.Common.{ap}
use Rattle.ix_cid.specs.Cid.{IsCid}
use Rattle.ix_cid.specs.Varint.{varint_at}
use Rattle.ix_store.specs.Store.{Blocks}
use Rattle.ix_walk.specs.JobMeaning.{JobMeaning, coded_job}
use Rattle.ix_sections.specs.declared.fault.CarKind.{CarKind}
use Rattle.ix_sections.specs.Reading.{header_at}
use Rattle.ix_sections.specs.Writing.{with_length, header_of, section_with}
use Rattle.ix_verdict.specs.declared.allow_missing.AllowMissing.{AllowMissing}
use Rattle.ix_receive.specs.declared.counts.Counts.{Counts}
use Rattle.ix_store.specs.Store.{Blocks}
use Rattle.ix_receive.specs.Receiving.{AreReceived}
use Rattle.ix_receive.specs.Keeping.{kept_of}
use Rattle.ix_receive.specs.Reception.{Reception, reception_with, coded_blocks}
use Rattle.ix_own_archive.specs.declared.fault.ArchiveReason.{ArchiveReason}
use Rattle.ix_own_archive.specs.declared.fault.ArchiveReason.TheVariants.{Header, OtherHeader, Memory}
use Rattle.ix_own_archive.specs.declared.stream_asked.ExpectedHeader.{ExpectedHeader}
use Rattle.ix_own_archive.specs.declared.stream_asked.ExpectedHeader.TheVariants.{OfJob, Any}
use Rattle.ix_own_archive.specs.declared.stream_asked.StreamLimits.{StreamLimits}
use Rattle.ix_own_archive.specs.declared.stream_fault.StreamFault.{StreamFault}
use Rattle.ix_own_archive.specs.declared.stream_fault.StreamReason.{StreamReason}
use Rattle.ix_own_archive.specs.declared.stream_fault.StreamReason.TheVariants.{Archive, HeaderLength, SectionLength, Ended}
use Rattle.ix_own_archive.specs.Checking.{IsAcceptedWith, IsJobsOwnWith, IsFaultAtWith, IsRightlyNotWith}
use Rattle.ix_own_archive.specs.Fronts.{is_whole}

-- what is asked of a stream: the archive of a job without what a base has, which blocks may be missing, the header that is expected,
-- and the limits
pub record Asked : Type 0 where
  pub base : Blocks
  pub job : JobMeaning
  pub allowed : AllowMissing
  pub header : ExpectedHeader
  pub limits : StreamLimits

-- a receiver of a stream: what is asked, the bytes that are checked and those that are not, how many were released, how many
-- sections are checked, and whether it has ended
pub record Stream : Type 0 where
  pub asked : Asked
  pub checked : List ℕ
  pub rest : List ℕ
  pub released : ℕ
  pub sections : ℕ
  pub ended : Bool

-- false for the header of the job's roots, and true for any
abbrev pub header_bit : ExpectedHeader → Bool
header_bit OfJob = false
header_bit Any = true

abbrev pub header_by : Bool → ExpectedHeader
header_by false = OfJob
header_by true = Any

-- which gives it back
pub header_by-bit : (h : ExpectedHeader) → header_by (header_bit h) ≡ h
header_by-bit OfJob = refl
header_by-bit Any = refl

-- a stream is stored as its parts, and is the same when they are put together again
pub stream_back : (s : Stream) → (let back : Stream = record {
  asked = record { base = s.asked.base; job = s.asked.job; allowed = record { raw = s.asked.allowed.raw; dag_cbor = s.asked.allowed.dag_cbor }; header = header_by (header_bit s.asked.header); limits = record { header = s.asked.limits.header; section = s.asked.limits.section } };
  checked = s.checked;
  rest = s.rest;
  released = s.released;
  sections = s.sections;
  ended = s.ended;
} in back) ≡ s
stream_back s =
    ap (λ (h : ExpectedHeader). record {
      asked = record { base = s.asked.base; job = s.asked.job; allowed = s.asked.allowed; header = h; limits = s.asked.limits };
      checked = s.checked;
      rest = s.rest;
      released = s.released;
      sections = s.sections;
      ended = s.ended;
    }) (header_by-bit s.asked.header)

abbrev pub coded_stream : Coded Stream
coded_stream =
    code_by (((Blocks × JobMeaning) × ((Bool × Bool) × (Bool × (ℕ × ℕ)))) × ((List ℕ × List ℕ) × (ℕ × (ℕ × Bool))))
    (coded× (coded× (coded× coded_blocks coded_job) (coded× (coded× coded_bool coded_bool) (coded× coded_bool (coded× coded_ℕ coded_ℕ)))) (coded× (coded× (coded_list coded_ℕ) (coded_list coded_ℕ)) (coded× coded_ℕ (coded× coded_ℕ coded_bool))))
    (λ s. (((s.asked.base, s.asked.job), ((s.asked.allowed.raw, s.asked.allowed.dag_cbor), (header_bit s.asked.header, (s.asked.limits.header, s.asked.limits.section)))), ((s.checked, s.rest), (s.released, (s.sections, s.ended)))))
    (λ p. record {
      asked = record { base = p.0.0.0; job = p.0.0.1; allowed = record { raw = p.0.1.0.0; dag_cbor = p.0.1.0.1 }; header = header_by p.0.1.1.0; limits = record { header = p.0.1.1.1.0; section = p.0.1.1.1.1 } };
      checked = p.1.0.0;
      rest = p.1.0.1;
      released = p.1.1.0;
      sections = p.1.1.1.0;
      ended = p.1.1.1.1;
    })
    (λ s. stream_back s)

-- all bytes that it has taken
abbrev pub taken_of : Stream → List ℕ
taken_of s = s.checked ++ s.rest

-- nothing was taken
abbrev pub nothing_taken : Asked → Stream
nothing_taken asked = record { asked = asked; checked = []; rest = []; released = 0; sections = 0; ended = false }

-- a header is expected: that of the job's roots, or any that is read, whatever follows
abbrev pub IsExpected : ExpectedHeader → JobMeaning → List ℕ → Type 0
IsExpected OfJob job header = header ≡ header_of job.roots
IsExpected Any job header = (after : List ℕ) → header_at (header ++ after) ≡ Ok after

-- bytes are a header that is expected and the sections received, as they are written, each within its limit
pub record AreChecked (asked : Asked) (checked : List ℕ) (r : Reception) : Type 0 where
  pub header : List ℕ
  pub expected : IsExpected asked.header asked.job header
  pub text : List ℕ
  pub spelled : header ≡ with_length text
  pub short : length text ≤ asked.limits.header
  pub bytes : checked ≡ header ++ flat_map (λ p. section_with p.0 (Some p.1)) r.sections
  pub same : r ≡ reception_with asked.base asked.job asked.allowed r.sections r.visits false
  pub received : AreReceived asked.base r.visits asked.job r.sections
  pub cids : AllByRecursion (λ p. IsCid p.0) r.sections
  pub within : AllByRecursion (λ p. length (p.0 ++ p.1) ≤ asked.limits.section) r.sections

-- bytes that are checked: none, or a header that is expected and so many sections
pub data AreParts (asked : Asked) (checked : List ℕ) (sections : ℕ) : Type 0 where
  no_part : checked ≡ [] → sections ≡ 0 → AreParts asked checked sections
  some_parts : (r : Reception) → AreChecked asked checked r → sections ≡ length r.sections → AreParts asked checked sections

-- what is kept of the sections that are checked: their CIDs, and their blocks if these are DAG-CBOR
pub data AreKeptOf (asked : Asked) (checked : List ℕ) (kept : Blocks) : Type 0 where
  of_none : checked ≡ [] → kept ≡ [] → AreKeptOf asked checked kept
  of_sections : (r : Reception) → AreChecked asked checked r → kept ≡ map kept_of r.sections → AreKeptOf asked checked kept

-- a stream waits for the rest of its header, or for that of a section
pub data IsWaiting (asked : Asked) (checked : List ℕ) (rest : List ℕ) (sections : ℕ) : Type 0 where
  for_header : checked ≡ [] → sections ≡ 0 → is_whole asked.limits.header rest ≡ Ok false → IsWaiting asked checked rest sections
  for_section : (r : Reception) → AreChecked asked checked r → sections ≡ length r.sections → is_whole asked.limits.section rest ≡ Ok false → IsWaiting asked checked rest sections

-- a receiver of a stream goes on
pub record IsGoing (s : Stream) : Type 0 where
  pub going : s.ended ≡ false
  pub waits : IsWaiting s.asked s.checked s.rest s.sections

-- it took a piece, and goes on
pub record TakesOn (old : Stream) (piece : List ℕ) (new : Stream) : Type 0 where
  pub was_going : old.ended ≡ false
  pub asked : new.asked ≡ old.asked
  pub taken : taken_of new ≡ taken_of old ++ piece
  pub released : new.released ≡ old.released
  pub grown : (more : List ℕ) × (new.checked ≡ old.checked ++ more)
  pub going : IsGoing new

-- it stops: it has ended, and stays as it is if it had; the bytes that are checked are those before the offset of the fault
pub record StopsAt (old : Stream) (new : Stream) (place : ℕ) : Type 0 where
  pub asked : new.asked ≡ old.asked
  pub released : new.released ≡ old.released
  pub grown : (more : List ℕ) × (new.checked ≡ old.checked ++ more)
  pub parts : AreParts new.asked new.checked new.sections
  pub ended : new.ended ≡ true
  pub stays : old.ended ≡ true → new ≡ old
  pub offset : place ≡ length new.checked

-- the archive that a stream is: itself, or what is after its header under the header of the job's roots, if any header is expected
abbrev pub IsArchiveOf : ExpectedHeader → JobMeaning → List ℕ → List ℕ → Type 0
IsArchiveOf OfJob job stream archive = archive ≡ stream
IsArchiveOf Any job stream archive = (body : List ℕ) × (header_at stream ≡ Ok body) × (archive ≡ header_of job.roots ++ body)

-- the archive that a stream is isn't accepted: it has the fault as far from its end
pub record IsFaultIn (asked : Asked) (stream : List ℕ) (place : ℕ) (reason : ArchiveReason) : Type 0 where
  pub archive : List ℕ
  pub is : IsArchiveOf asked.header asked.job stream archive
  pub at : ℕ
  pub offset : at + length stream ≡ place + length archive
  pub found : IsFaultAtWith asked.base asked.job asked.allowed archive at reason

-- a header can't be read
abbrev pub IsUnreadable : List ℕ → CarKind → Type 0
IsUnreadable stream kind = (left : ℕ) × (header_at stream ≡ Err (record { kind = kind; left = left }))

-- why a stream isn't accepted, and the offset: any header that is read may be there instead of the job's
abbrev pub IsStreamFault : ExpectedHeader → Asked → List ℕ → ℕ → ArchiveReason → Type 0
IsStreamFault OfJob asked stream place reason = IsFaultAtWith asked.base asked.job asked.allowed stream place reason
IsStreamFault Any asked stream place (Header kind) = (place ≡ 0) × IsUnreadable stream kind
IsStreamFault Any asked stream place OtherHeader = ⊥
IsStreamFault Any asked stream place Memory = Unit {0}
IsStreamFault Any asked stream place reason = IsFaultIn asked stream place reason

-- the archive that a stream is, of fewer than 2 ^ 63 bytes, isn't the job's own, unless a block is missing, a root can't be exported, or memory ran
-- out
abbrev pub IsRightlyNoStream : Asked → List ℕ → ArchiveReason → Type 0
IsRightlyNoStream asked stream reason =
    (archive : List ℕ) → IsArchiveOf asked.header asked.job stream archive → length archive < 2 ^ 63 → IsRightlyNotWith asked.base asked.job archive reason

-- a length that is read at the front is above a limit
pub record IsAbove (limit : ℕ) (b : List ℕ) (n : ℕ) : Type 0 where
  pub size : ℕ
  pub read : varint_at b ≡ Ok (n, size)
  pub above : limit < n

-- a section is longer than the limit, at the offset of its length
pub record IsLongAt (asked : Asked) (stream : List ℕ) (place n : ℕ) : Type 0 where
  pub checked : List ℕ
  pub rest : List ℕ
  pub last : Reception
  pub before : AreChecked asked checked last
  pub bytes : stream ≡ checked ++ rest
  pub offset : place ≡ length checked
  pub above : IsAbove asked.limits.section rest n

-- why a receiver stops at a stream
abbrev pub IsStop : Asked → List ℕ → ℕ → StreamReason → Type 0
IsStop asked stream place (Archive reason) =
    IsStreamFault asked.header asked stream place reason × IsRightlyNoStream asked stream reason
IsStop asked stream place (HeaderLength n) = (place ≡ 0) × IsAbove asked.limits.header stream n
IsStop asked stream place (SectionLength n) = IsLongAt asked stream place n
IsStop asked stream place Ended = ⊥

-- a receiver stops at a piece: whatever follows, or it has ended before
abbrev pub IsStoppedAt : Stream → List ℕ → ℕ → StreamReason → Type 0
IsStoppedAt old piece place Ended = old.ended ≡ true
IsStoppedAt old piece place reason =
    (more : List ℕ) → IsStop old.asked ((taken_of old ++ piece) ++ more) place reason

-- a piece is taken, or a receiver stops at it
pub record Takes (old : Stream) (piece : List ℕ) (new : Stream) (result : Result (Unit {0}) StreamFault) : Type 0 where
  pub taken : OnOk result (TakesOn old piece new)
  pub stops : IfErr result (λ e. StopsAt old new e.place)
  pub fault : IfErr result (λ e. IsStoppedAt old piece e.place e.reason)

-- all bytes of a stream were taken: the archive that it is is the job's own, and accepted
pub record IsWholeStream (asked : Asked) (stream : List ℕ) (counts : Counts) : Type 0 where
  pub archive : List ℕ
  pub is : IsArchiveOf asked.header asked.job stream archive
  pub own : IsJobsOwnWith asked.base asked.job archive
  pub accepted : IsAcceptedWith asked.base asked.job asked.allowed archive counts

-- why the end of a stream is refused
abbrev pub IsCutAt : Stream → ℕ → StreamReason → Type 0
IsCutAt s place Ended = s.ended ≡ true
IsCutAt s place reason = (place ≡ length s.checked) × IsStop s.asked (taken_of s) place reason
