-- What is found of bytes that may be a job's own archive.
use Rattle.std.specs.Prelude.{◌≡◌, ℕ, ◌-◌, true, false, Bool, List, [], ◌++◌, length, Some, Ok, Err}
use Rattle.ix_cid.specs.Cid.{IsCid}
use Rattle.ix_walk.specs.JobMeaning.{JobMeaning}
use Rattle.ix_car.specs.Laws.{once}
use Rattle.ix_sections.specs.Gives.{FailsAs}
use Rattle.ix_sections.specs.Reading.{header_at, section_at}
use Rattle.ix_sections.specs.Writing.{header_of, section_with}
use Rattle.ix_verdict.specs.declared.allow_missing.AllowMissing.{AllowMissing}
use Rattle.ix_receive.specs.declared.counts.Counts.{Counts}
use Rattle.ix_receive.specs.declared.fault.ReceiveFault.{ReceiveFault}
use Rattle.ix_receive.specs.declared.fault.ReceiveFault.TheVariants as received
use Rattle.ix_store.specs.Store.{Blocks}
use Rattle.ix_receive.specs.Own.{archive_bytes, IsItsOwnWith}
use Rattle.ix_receive.specs.Receiving.{AreReceived}
use Rattle.ix_receive.specs.Reception.{Reception, reception_with, Receives, IsRefused, IsRightlyRefused, IsWhole, IsUnfinished}
use Rattle.ix_own_archive.specs.declared.fault.ArchiveReason.{ArchiveReason}
use Rattle.ix_own_archive.specs.declared.fault.ArchiveReason.TheVariants.{Header, OtherHeader, Section, Refused, Unfinished, Memory}

-- an archive begins with the header of the job's roots and the sections received, as they are written, and this rest is left
pub record IsReceivedUpTo (base : Blocks) (job : JobMeaning) (allowed : AllowMissing) (archive rest : List ℕ) (r : Reception) : Type 0 where
  pub bytes : archive ≡ archive_bytes job.roots r.sections ++ rest
  pub same : r ≡ reception_with base job allowed r.sections r.visits false
  pub received : AreReceived base r.visits job r.sections

-- all sections of an archive were received, by a receiver with a base, and they are their own
pub record IsAcceptedWith (base : Blocks) (job : JobMeaning) (allowed : AllowMissing) (archive : List ℕ) (counts : Counts) : Type 0 where
  pub last : Reception
  pub all : IsReceivedUpTo base job allowed archive [] last
  pub whole : IsWhole last counts

-- with no base
abbrev pub IsAccepted : JobMeaning → AllowMissing → List ℕ → Counts → Type 0
IsAccepted = IsAcceptedWith []

-- it is the job's own archive with a base, traversed with link-visit-once, whichever number the job has
abbrev pub IsJobsOwnWith : Blocks → JobMeaning → List ℕ → Type 0
IsJobsOwnWith base job archive = (number : ℕ) → IsItsOwnWith base number (once job) archive

-- with no base
abbrev pub IsJobsOwn : JobMeaning → List ℕ → Type 0
IsJobsOwn = IsJobsOwnWith []

-- for no number is it
abbrev pub IsNobodysOwn : Blocks → JobMeaning → List ℕ → Type 0
IsNobodysOwn base job archive = (number : ℕ) → IsItsOwnWith base number (once job) archive → ⊥

-- it doesn't begin with the header of the job's roots
abbrev pub LacksHeader : JobMeaning → List ℕ → Type 0
LacksHeader job archive = (rest : List ℕ) → archive ≡ header_of job.roots ++ rest → ⊥

-- what is found of its header, which isn't that of the job's roots
abbrev pub IsHeaderReason : List ℕ → ArchiveReason → Type 0
IsHeaderReason archive (Header kind) = (left : ℕ) × FailsAs kind left (header_at archive)
IsHeaderReason archive OtherHeader = (rest : List ℕ) × (header_at archive ≡ Ok rest)
IsHeaderReason archive (Section kind) = ⊥
IsHeaderReason archive (Refused c fault) = ⊥
IsHeaderReason archive (Unfinished fault) = ⊥
IsHeaderReason archive Memory = Unit {0}

-- the section at the front of bytes was received, and this rest is left
pub record HasReceived (bytes rest : List ℕ) (old new : Reception) : Type 0 where
  pub section : List ℕ × List ℕ
  pub written : bytes ≡ section_with section.0 (Some section.1) ++ rest
  pub cid : IsCid section.0
  pub receives : Receives old section new

-- the section at the front of bytes, with this CID, is refused by a receiver
pub record IsRefusedAt (r : Reception) (bytes c : List ℕ) (fault : ReceiveFault) : Type 0 where
  pub block : List ℕ
  pub rest : List ℕ
  pub written : bytes ≡ section_with c (Some block) ++ rest
  pub cid : IsCid c
  pub refused : IsRefused r (c, block) fault
  pub rightly : IsRightlyRefused r (c, block) fault

-- why the section at the front of bytes isn't received
abbrev pub IsSectionReason : Reception → List ℕ → ArchiveReason → Type 0
IsSectionReason r bytes (Header kind) = ⊥
IsSectionReason r bytes OtherHeader = ⊥
IsSectionReason r bytes (Section kind) = (left : ℕ) × (section_at bytes ≡ Err (record { kind = kind; left = left }))
IsSectionReason r bytes (Refused c fault) = IsRefusedAt r bytes c fault
IsSectionReason r bytes (Unfinished fault) = ⊥
IsSectionReason r bytes Memory = Unit {0}

-- a section of an archive isn't received, at the offset of its length
pub record IsStoppedAt (base : Blocks) (job : JobMeaning) (allowed : AllowMissing) (archive : List ℕ) (place : ℕ) (reason : ArchiveReason) : Type 0 where
  pub last : Reception
  pub rest : List ℕ
  pub before : IsReceivedUpTo base job allowed archive rest last
  pub offset : place ≡ length archive - length rest
  pub found : IsSectionReason last rest reason

-- all sections of an archive were received, and their end is refused
pub record IsUnfinishedAt (base : Blocks) (job : JobMeaning) (allowed : AllowMissing) (archive : List ℕ) (place : ℕ) (fault : ReceiveFault) : Type 0 where
  pub last : Reception
  pub all : IsReceivedUpTo base job allowed archive [] last
  pub offset : place ≡ length archive
  pub found : IsUnfinished last fault

-- why an archive isn't accepted by a receiver with a base, and the offset
abbrev pub IsFaultAtWith : Blocks → JobMeaning → AllowMissing → List ℕ → ℕ → ArchiveReason → Type 0
IsFaultAtWith base job allowed archive place (Header kind) = (place ≡ 0) × LacksHeader job archive × IsHeaderReason archive (Header kind)
IsFaultAtWith base job allowed archive place OtherHeader = (place ≡ 0) × LacksHeader job archive × IsHeaderReason archive OtherHeader
IsFaultAtWith base job allowed archive place (Section kind) = IsStoppedAt base job allowed archive place (Section kind)
IsFaultAtWith base job allowed archive place (Refused c fault) = IsStoppedAt base job allowed archive place (Refused c fault)
IsFaultAtWith base job allowed archive place (Unfinished fault) = IsUnfinishedAt base job allowed archive place fault
IsFaultAtWith base job allowed archive place Memory = Unit {0}

-- with no base
abbrev pub IsFaultAt : JobMeaning → AllowMissing → List ℕ → ℕ → ArchiveReason → Type 0
IsFaultAt = IsFaultAtWith []

-- a receiver's fault leaves open whether an archive is its own: a block is missing that may not be, a root can't be exported, or memory
-- ran out
abbrev pub leaves_open : ReceiveFault → Bool
leaves_open (received.Unsound v) = false
leaves_open received.InBase = false
leaves_open received.Repeated = false
leaves_open received.OutOfOrder = false
leaves_open received.NotAskedFor = false
leaves_open (received.Missing c) = true
leaves_open (received.Root c v) = true
leaves_open received.Limit = false
leaves_open received.Ended = false
leaves_open received.Memory = true

-- for any other reason it isn't
abbrev pub IsRightlyNotWith : Blocks → JobMeaning → List ℕ → ArchiveReason → Type 0
IsRightlyNotWith base job archive (Header kind) = IsNobodysOwn base job archive
IsRightlyNotWith base job archive OtherHeader = IsNobodysOwn base job archive
IsRightlyNotWith base job archive (Section kind) = IsNobodysOwn base job archive
IsRightlyNotWith base job archive (Refused c fault) = leaves_open fault ≡ false → IsNobodysOwn base job archive
IsRightlyNotWith base job archive (Unfinished fault) = leaves_open fault ≡ false → IsNobodysOwn base job archive
IsRightlyNotWith base job archive Memory = Unit {0}

-- with no base
abbrev pub IsRightlyNot : JobMeaning → List ℕ → ArchiveReason → Type 0
IsRightlyNot = IsRightlyNotWith []
