-- What a receiver of a stream keeps, and how its parts go on.
use Rattle.std.specs.Prelude.{◌≡◌, ℕ, suc, ◌+◌, ◌-◌, ◌<◌, ◌≤◌, ◌^◌, Bool, true, false, List, [], ◌++◌, length, take, drop, Option, Some, None, Ok, Err, refl}
use Rattle.std.specs.Coded.{Coded, code_by, coded×, coded_ℕ, coded_list}
use Rattle.ix_walk.specs.JobMeaning.{JobMeaning}
use Rattle.ix_sections.specs.Reading.{header_at}
use Rattle.ix_sections.specs.Writing.{with_length}
use Rattle.ix_receive.specs.Reception.{Reception, nothing_received_with}
use Rattle.ix_own_archive.specs.declared.fault.ArchiveReason.{ArchiveReason}
use Rattle.ix_own_archive.specs.declared.fault.ArchiveReason.TheVariants.{Header, OtherHeader, Section, Refused, Unfinished, Memory}
use Rattle.ix_own_archive.specs.declared.stream_asked.ExpectedHeader.{ExpectedHeader}
use Rattle.ix_own_archive.specs.declared.stream_asked.ExpectedHeader.TheVariants.{OfJob, Any}
use Rattle.ix_own_archive.specs.declared.stream_fault.StreamReason.{StreamReason}
use Rattle.ix_own_archive.specs.declared.stream_fault.StreamReason.TheVariants.{Archive, HeaderLength, SectionLength, Ended}
use Rattle.ix_own_archive.specs.Checking.{LacksHeader, IsHeaderReason, IsSectionReason, HasReceived}
use Rattle.ix_own_archive.specs.Fronts.{is_whole}
use Rattle.ix_own_archive.specs.Streaming.{Asked, IsUnreadable, Stream, IsExpected, AreChecked, AreParts, IsStop}

-- the bytes of a stream: those that are checked and those that are not, how many were released, and how many times some were checked
pub record TakenBytes : Type 0 where
  pub checked : List ℕ
  pub rest : List ℕ
  pub released : ℕ
  pub parts : ℕ

abbrev pub coded_bytes : Coded TakenBytes
coded_bytes =
    code_by (List ℕ × (List ℕ × (ℕ × ℕ))) (coded× (coded_list coded_ℕ) (coded× (coded_list coded_ℕ) (coded× coded_ℕ coded_ℕ)))
    (λ b. (b.checked, (b.rest, (b.released, b.parts)))) (λ p. record { checked = p.0; rest = p.1.0; released = p.1.1.0; parts = p.1.1.1 }) (λ _. refl)

-- the bytes of which these were released and these are kept
abbrev pub bytes_of : List ℕ → List ℕ → ℕ → ℕ → TakenBytes
bytes_of gone kept checked parts =
    record { checked = gone ++ take checked kept; rest = drop checked kept; released = length gone; parts = parts }

-- with a piece more
abbrev pub with_piece : List ℕ → TakenBytes → TakenBytes
with_piece piece b = record { checked = b.checked; rest = b.rest ++ piece; released = b.released; parts = b.parts }

-- so many bytes of the rest are checked
abbrev pub advanced : ℕ → TakenBytes → TakenBytes
advanced n b =
    record { checked = b.checked ++ take n b.rest; rest = drop n b.rest; released = b.released; parts = b.parts + 1 }

-- those that are checked are released
abbrev pub all_released : TakenBytes → TakenBytes
all_released b = record { checked = b.checked; rest = b.rest; released = length b.checked; parts = b.parts }

-- they are counted
pub record AreCounted (gone kept : List ℕ) (checked released parts : ℕ) : Type 0 where
  pub within : checked ≤ length kept
  pub gone_is : released ≡ length gone
  pub few : released + length kept < 2 ^ 63
  pub parts_few : parts ≤ released + checked

-- more bytes of the rest were checked
pub record MovesOn (old new : TakenBytes) : Type 0 where
  pub moved : List ℕ
  pub checked : new.checked ≡ old.checked ++ moved
  pub rest : old.rest ≡ moved ++ new.rest
  pub released : new.released ≡ old.released

-- what is wrong with a header, which can't be read
abbrev pub CantBeRead : List ℕ → ArchiveReason → Type 0
CantBeRead b (Header kind) = IsUnreadable b kind
CantBeRead b OtherHeader = ⊥
CantBeRead b (Section kind) = ⊥
CantBeRead b (Refused c fault) = ⊥
CantBeRead b (Unfinished fault) = ⊥
CantBeRead b Memory = Unit {0}

-- what is wrong with a header, which isn't one that is expected
abbrev pub IsHeaderWrong : ExpectedHeader → JobMeaning → List ℕ → ArchiveReason → Type 0
IsHeaderWrong OfJob job b reason = LacksHeader job b × IsHeaderReason b reason
IsHeaderWrong Any job b reason = CantBeRead b reason

-- whatever follows
abbrev pub StaysWrong : Asked → List ℕ → ArchiveReason → Type 0
StaysWrong asked b reason = (more : List ℕ) → IsHeaderWrong asked.header asked.job (b ++ more) reason

-- so many bytes at the front are a header that is expected
pub record IsHeaderAt (asked : Asked) (b : List ℕ) (n : ℕ) : Type 0 where
  pub header : List ℕ
  pub rest : List ℕ
  pub bytes : b ≡ header ++ rest
  pub size : n ≡ length header
  pub some : 0 < n
  pub expected : IsExpected asked.header asked.job header
  pub text : List ℕ
  pub spelled : header ≡ with_length text
  pub short : length text ≤ asked.limits.header

-- so many bytes at the front are a header that can be read
pub record IsAnyHeader (b : List ℕ) (n : ℕ) : Type 0 where
  pub rest : List ℕ
  pub read : header_at b ≡ Ok rest
  pub size : n + length rest ≡ length b

-- the section of so many bytes at the front, within the limit, was received
pub record HasTaken (limit : ℕ) (b : List ℕ) (old new : Reception) (n : ℕ) : Type 0 where
  pub rest : List ℕ
  pub received : HasReceived b rest old new
  pub size : n + length rest ≡ length b
  pub short : length (received.section.0 ++ received.section.1) ≤ limit

-- what is found of the section at the front: it isn't whole, or it was received
abbrev pub IsNext : ℕ → List ℕ → Reception → Reception → Option ℕ → Type 0
IsNext limit b old new None = (new ≡ old) × (is_whole limit b ≡ Ok false)
IsNext limit b old new (Some n) = HasTaken limit b old new n

-- or it is refused, for this reason
abbrev pub IsNotNext : ℕ → List ℕ → Reception → StreamReason → Type 0
IsNotNext limit b r (Archive reason) = (is_whole limit b ≡ Ok true) × IsSectionReason r b reason
IsNotNext limit b r (HeaderLength n) = ⊥
IsNotNext limit b r (SectionLength n) = is_whole limit b ≡ Err n
IsNotNext limit b r Ended = ⊥

-- the header and so many sections are checked
pub record HasChecked (asked : Asked) (b : TakenBytes) (r : Reception) : Type 0 where
  pub parts : b.parts ≡ suc (length r.sections)
  pub bytes : AreChecked asked b.checked r

-- a receiver waits for more bytes
pub data IsKept (asked : Asked) (b : TakenBytes) (r : Reception) : Type 0 where
  before : b.checked ≡ [] → b.parts ≡ 0 → r ≡ nothing_received_with asked.base asked.job asked.allowed → is_whole asked.limits.header b.rest ≡ Ok false → IsKept asked b r
  within : HasChecked asked b r → is_whole asked.limits.section b.rest ≡ Ok false → IsKept asked b r

-- what is checked are whole parts, and unless it has ended a receiver waits
pub record IsHeld (asked : Asked) (b : TakenBytes) (r : Reception) (ended : Bool) : Type 0 where
  pub parts : AreParts asked b.checked (b.parts - 1)
  pub going : ended ≡ false → IsKept asked b r

-- what is found of a header: it isn't whole, or it is checked
abbrev pub IsHeadTaken : Asked → TakenBytes → TakenBytes → Bool → Type 0
IsHeadTaken asked old new false = (new ≡ old) × (is_whole asked.limits.header old.rest ≡ Ok false)
IsHeadTaken asked old new true = (n : ℕ) × IsHeaderAt asked old.rest n × (new ≡ advanced n old)

-- it stops, whatever follows
pub record StopsHere (asked : Asked) (b : TakenBytes) (reason : StreamReason) : Type 0 where
  pub parts : AreParts asked b.checked (b.parts - 1)
  pub stop : (more : List ℕ) → IsStop asked ((b.checked ++ b.rest) ++ more) (length b.checked) reason

-- it took a piece
pub record TakesPiece (asked : Asked) (old : TakenBytes) (piece : List ℕ) (new : TakenBytes) (r : Reception) : Type 0 where
  pub moved : MovesOn (with_piece piece old) new
  pub kept : IsKept asked new r

-- it stops at a piece, whatever follows
pub record StopsAtPiece (asked : Asked) (old : TakenBytes) (piece : List ℕ) (new : TakenBytes) (reason : StreamReason) : Type 0 where
  pub grown : (more : List ℕ) × (new.checked ≡ old.checked ++ more)
  pub released : new.released ≡ old.released
  pub parts : AreParts asked new.checked (new.parts - 1)
  pub stop : (more : List ℕ) → IsStop asked (((old.checked ++ old.rest) ++ piece) ++ more) (length new.checked) reason

-- a receiver of a stream, by what it keeps
abbrev pub stream_of : Asked → TakenBytes → Bool → Stream
stream_of asked b ended =
    record { asked = asked; checked = b.checked; rest = b.rest; released = b.released; sections = b.parts - 1; ended = ended }
