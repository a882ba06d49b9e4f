-- What each call returns, by the contents of its handles before and after it.
use Rattle.std.specs.Prelude.{◌≡◌, ℕ, List, [], length, Option, Some, None, Result}
use Rattle.std.specs.Global.{Global}
use Rattle.std.specs.declared.sync.Arc.{Arc}
use Rattle.ix_store.specs.Store.{Blocks}
use Rattle.ix_api.specs.declared.failure.Failure.{Failure}
use Rattle.ix_api.specs.declared.object.Object.{Object}
use Rattle.ix_api.specs.declared.object.Piece.{Piece}
use Rattle.ix_api.specs.declared.object.Piece.TheVariants.{Archive, Report}
use Rattle.ix_api.specs.Failures.{IsStoreFailure, IsJobFailure, IsPartsFailure, IsSelectorFailure}
use Rattle.ix_capi.specs.declared.handle.Handle.{Handle}
use Rattle.ix_capi.specs.declared.results.Counts.{Counts}
use Rattle.ix_capi.specs.declared.findings.CheckCounts.{CheckCounts}
use Rattle.ix_capi.specs.declared.results.SkipRecord.{SkipRecord}
use Rattle.ix_capi.specs.declared.status.Status.{Status}
use Rattle.ix_capi.specs.Answers.{
  IsMade,
  IsOpen,
  IsStoreOf,
  IsJobOf,
  IsJobOfParts,
  IsSelectorTextOf,
  IsNoFailure,
  HasRead,
  HasAddedTo,
  HasFrozen,
  HasOnce,
  HasBase,
  HasLeftOut,
  HasShared,
  IsExported,
  allowed_by,
  IsCheckedBy,
}
use Rattle.ix_capi.specs.Results.{
  part_numbered,
  end_of,
  counts_of,
  known_of,
  skip_of,
  cid_length,
  check_counts_of,
  place_of,
  blamed_length,
  export_in,
  own_in,
  rejection_in,
  skip_in,
  bytes_in,
  line_in,
  of_found,
  IsSet,
  count_copied,
  HasCopied,
}

-- what a handle holds
abbrev pub content : Handle → Option Object
content handle = handle.pointed.value

-- the handle is empty
abbrev pub IsEmptied : Handle → Type 0
IsEmptied handle = content handle ≡ None

-- the handle holds what it held
abbrev pub Stays : Handle → Handle → Type 0
Stays before after = content after ≡ content before

-- fills a handle with something that is meant, or with the line of an error
abbrev pub Fills : (Object → Type 0) → (Failure → Type 0) → Handle → Handle → Status → Type 0
Fills meant fails before after = IsMade meant fails (content before) (content after)

-- with a store without blocks, a store of a CARv1 file, the job of a line or of its parts, or the text of a selector
abbrev pub FillsWithNoBlocks : Handle → Handle → Status → Type 0
FillsWithNoBlocks = Fills (IsOpen []) IsNoFailure

abbrev pub FillsWithStoreOf : List ℕ → Handle → Handle → Status → Type 0
FillsWithStoreOf car = Fills (IsStoreOf car) (IsStoreFailure car)

abbrev pub FillsWithJobOf : List ℕ → Handle → Handle → Status → Type 0
FillsWithJobOf line = Fills (IsJobOf line) (IsJobFailure line)

abbrev pub FillsWithJobOfParts : List ℕ → List ℕ → ℕ → Handle → Handle → Status → Type 0
FillsWithJobOfParts roots selector limit =
    Fills (IsJobOfParts roots selector limit) (IsPartsFailure roots selector limit)

abbrev pub FillsWithSelectorOf : List ℕ → Handle → Handle → Status → Type 0
FillsWithSelectorOf json = Fills (IsSelectorTextOf json) (IsSelectorFailure json)

-- reads a CARv1 file into a handle: adds its blocks to an open store, or fills the handle with a store of them
abbrev pub Reads : List ℕ → Handle → Handle → Status → Type 0
Reads car before after = HasRead car (content before) (content after)

-- adds a block under a CID to an open store
abbrev pub Adds : List ℕ → List ℕ → Handle → Handle → Status → Type 0
Adds cid block before after = HasAddedTo cid block (content before) (content after)

-- freezes an open store
abbrev pub Freezes : Handle → Handle → Status → Type 0
Freezes before after = HasFrozen (content before) (content after)

-- has a job go into each CID once
abbrev pub MakesOnce : Handle → Handle → Status → Type 0
MakesOnce before after = HasOnce (content before) (content after)

-- gives a job this base
abbrev pub GetsBase : Arc Blocks Global → Handle → Handle → Status → Type 0
GetsBase base before after = HasBase base (content before) (content after)

-- has a job leave out what is sound in a base, a frozen store, whose handle holds what it held
pub record LeavesOut (job job_after base base_after : Handle) (status : Status) : Type 0 where
  pub left_out : HasLeftOut (content base) (content job) (content job_after) status
  pub base_stays : Stays base base_after

-- fills another handle with the frozen store of the first, which holds what it held
pub record SharesWith (store store_after other other_after : Handle) (status : Status) : Type 0 where
  pub shared : HasShared (content store) (content other) (content other_after) status
  pub store_stays : Stays store store_after

-- fills a handle with what an export of a job over a frozen store leaves; the handles of those hold what they held
pub record ExportsTo (store store_after job job_after out out_after : Handle) (status : Status) : Type 0 where
  pub exported : IsExported (content store) (content job) (content out) (content out_after) status
  pub store_stays : Stays store store_after
  pub job_stays : Stays job job_after

-- fills a handle with what is found of an archive that may be the own one of a job, whose handle holds what it held
pub record ChecksTo (archive : List ℕ) (flags : ℕ) (job job_after out out_after : Handle) (status : Status) : Type 0 where
  pub checked : IsCheckedBy archive (allowed_by flags) (content job) (content out) (content out_after) status
  pub job_stays : Stays job job_after

-- says of what is found in a handle, which holds what it held
abbrev pub Sets : {A : Type 0} → (Option Object → Result A Status) → Handle → Handle → A → A → Status → Type 0
Sets meant before after had told status = IsSet (meant (content before)) had told status × Stays before after

-- how a job ended
abbrev pub SetsEnd : Handle → Handle → ℕ → ℕ → Status → Type 0
SetsEnd = Sets (λ content. of_found end_of (export_in content))

-- what was counted
abbrev pub SetsCounts : Handle → Handle → Counts → Counts → Status → Type 0
SetsCounts = Sets (λ content. of_found counts_of (export_in content))

-- how many blocks are known
abbrev pub SetsKnown : Handle → Handle → ℕ → ℕ → Status → Type 0
SetsKnown = Sets (λ content. of_found known_of (export_in content))

-- how long a part is: the archive, the report, and the part with a number
abbrev pub SetsLength : Option Piece → Handle → Handle → ℕ → ℕ → Status → Type 0
SetsLength part = Sets (λ content. of_found length (bytes_in part content))

abbrev pub SetsArchiveLength : Handle → Handle → ℕ → ℕ → Status → Type 0
SetsArchiveLength = SetsLength (Some Archive)

abbrev pub SetsReportLength : Handle → Handle → ℕ → ℕ → Status → Type 0
SetsReportLength = SetsLength (Some Report)

abbrev pub SetsPartLength : ℕ → Handle → Handle → ℕ → ℕ → Status → Type 0
SetsPartLength number = SetsLength (part_numbered number)

-- how long the line of an error is
abbrev pub SetsLineLength : Handle → Handle → ℕ → ℕ → Status → Type 0
SetsLineLength = Sets (λ content. of_found length (line_in content))

-- what was counted of an archive that is a job's own
abbrev pub SetsChecked : Handle → Handle → CheckCounts → CheckCounts → Status → Type 0
SetsChecked = Sets (λ content. of_found check_counts_of (own_in content))

-- where an archive is rejected, and how long the CID is of the block that is missing or of the section that is refused
abbrev pub SetsPlace : Handle → Handle → ℕ → ℕ → Status → Type 0
SetsPlace = Sets (λ content. of_found place_of (rejection_in content))

abbrev pub SetsBlamedLength : Handle → Handle → ℕ → ℕ → Status → Type 0
SetsBlamedLength = Sets (λ content. of_found blamed_length (rejection_in content))

-- a skip by its number, and how long its CID is
abbrev pub SetsSkip : ℕ → Handle → Handle → SkipRecord → SkipRecord → Status → Type 0
SetsSkip number = Sets (λ content. of_found skip_of (skip_in number content))

abbrev pub SetsCidLength : ℕ → Handle → Handle → ℕ → ℕ → Status → Type 0
SetsCidLength number = Sets (λ content. of_found cid_length (skip_in number content))

-- reports how many bytes of the part with a number are copied into a buffer, from a place on
abbrev pub IsCounted : ℕ → ℕ → List ℕ → Handle → ℕ → ℕ → Status → Type 0
IsCounted part from buffer handle =
    IsSet (of_found (count_copied from buffer) (bytes_in (part_numbered part) (content handle)))

-- copies them
abbrev pub Copies : ℕ → ℕ → Handle → List ℕ → List ℕ → Type 0
Copies part from handle before after = HasCopied from (bytes_in (part_numbered part) (content handle)) before after
