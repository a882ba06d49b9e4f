-- What the calls of the C library answer, and what is in their handles after.
use Rattle.std.specs.Prelude.{◌≡◌, ◌≢◌, ◌⊎◌, ◌==◌, if◌then◌else◌, ℕ, true, false, List, [], ◌∷◌, ◌++◌, Option, Some, None, Result, Ok, Err}
use Rattle.std.specs.Global.{Vec, Global}
use Rattle.std.specs.declared.sync.Arc.{Arc}
use Rattle.std.specs.Arc.{arc_value}
use Rattle.std.specs.declared.alloc.AllocError.{AllocError}
use Rattle.ix_store.specs.Store.{Blocks}
use Rattle.ix_sections.specs.Reading.{blocks_after}
use Rattle.ix_jobs.specs.Jobs.{jobs_of}
use Rattle.ix_selector_json.specs.Notation.{IsSelectorHex}
use Rattle.ix_api.specs.declared.failure.Failure.{Failure}
use Rattle.ix_api.specs.declared.failure.Failure.TheVariants as failures
use Rattle.ix_api.specs.declared.object.Object.{Object}
use Rattle.ix_api.specs.declared.object.Object.TheVariants as held
use Rattle.ix_api.specs.declared.input.Added.{Added}
use Rattle.ix_api.specs.declared.input.Added.TheVariants as added
use Rattle.ix_api.specs.declared.exported.Exported.{Exported}
use Rattle.ix_verdict.specs.declared.allow_missing.AllowMissing.{AllowMissing}
use Rattle.ix_receive.specs.declared.counts.Counts.{Counts}
use Rattle.ix_api.specs.declared.checked.Checked.{Checked}
use Rattle.ix_api.specs.declared.checked.Rejection.{Rejection}
use Rattle.ix_api.specs.declared.checked.Checked.TheVariants.{Own, Rejected}
use Rattle.ix_api.specs.declared.request.Request.{Request}
use Rattle.ix_api.specs.Checks.{IsCheckOf}
use Rattle.ix_api.specs.Adding.{HasAdded, HasBegun, IsLeftBy}
use Rattle.ix_api.specs.Exporting.{HasExported}
use Rattle.ix_api.specs.Failures.{IsStoreFailure}
use Rattle.ix_api.specs.JobParts.{job_of_parts}
use Rattle.ix_api.specs.Requests.{known_to, once_of, with_base}
use Rattle.ix_capi.specs.declared.status.Status.{Status}
use Rattle.ix_capi.specs.declared.status.Status.TheVariants.{Done, Memory, Refused, Handle, Known, NoCid, Range}

-- the number that C has for an answer
abbrev pub code_of : Status → ℕ
code_of Done = 0
code_of Memory = 1
code_of Refused = 2
code_of Handle = 3
code_of Known = 4
code_of NoCid = 5
code_of Range = 6

-- the number is that of an answer of which this holds
abbrev pub ByStatus : (Status → Type 0) → ℕ → Type 0
ByStatus says number = (status : Status) × (number ≡ code_of status) × says status

-- What a handle holds before and after a call that makes something out of its input: it holds one of those that are
-- meant; or nothing is changed, for lack of memory; or it holds the line of an error.
abbrev pub IsMade : (Object → Type 0) → (Failure → Type 0) → Option Object → Option Object → Status → Type 0
IsMade meant fails before after Done = (content : Object) × (after ≡ Some content) × meant content
IsMade meant fails before after Memory = after ≡ before
IsMade meant fails before after Refused =
    (line : Vec ℕ) × (after ≡ Some (held.Refusal line)) × fails (failures.Refused line)
IsMade meant fails before after Handle = ⊥
IsMade meant fails before after Known = ⊥
IsMade meant fails before after NoCid = ⊥
IsMade meant fails before after Range = ⊥

-- a handle holds this after a call that fills it, or nothing is changed, for lack of memory
abbrev pub IsFilled : Object → Option Object → Option Object → Status → Type 0
IsFilled content before after Done = after ≡ Some content
IsFilled content before after Memory = after ≡ before
IsFilled content before after other = ⊥

-- the same of the line of an error
abbrev pub IsRefused : Failure → Option Object → Option Object → Status → Type 0
IsRefused (failures.Refused line) before after Refused = after ≡ Some (held.Refusal line)
IsRefused failure before after Memory = after ≡ before
IsRefused failure before after other = ⊥

-- an open store of these blocks
abbrev pub IsOpen : Blocks → Object → Type 0
IsOpen blocks (held.Open store) = store ≡ blocks
IsOpen blocks (held.Frozen store) = ⊥
IsOpen blocks (held.Job job) = ⊥
IsOpen blocks (held.Exported out) = ⊥
IsOpen blocks (held.Accepted counts) = ⊥
IsOpen blocks (held.Rejected rejection) = ⊥
IsOpen blocks (held.Text text) = ⊥
IsOpen blocks (held.Refusal line) = ⊥

-- the handle holds no open store
abbrev pub IsNoOpen : Option Object → Type 0
IsNoOpen content = (store : Blocks) → content ≢ Some (held.Open store)

-- a frozen one
abbrev pub IsFrozen : Blocks → Object → Type 0
IsFrozen blocks (held.Frozen store) = arc_value store ≡ blocks
IsFrozen blocks (held.Open store) = ⊥
IsFrozen blocks (held.Job job) = ⊥
IsFrozen blocks (held.Exported out) = ⊥
IsFrozen blocks (held.Accepted counts) = ⊥
IsFrozen blocks (held.Rejected rejection) = ⊥
IsFrozen blocks (held.Text text) = ⊥
IsFrozen blocks (held.Refusal line) = ⊥

-- an open store of these blocks and, after them, those of a CARv1 file's sections, of which the first of each CID counts
abbrev pub IsStoreAfter : Blocks → List ℕ → Object → Type 0
IsStoreAfter before file content = (blocks : Blocks) × (blocks_after before file ≡ Ok blocks) × IsOpen blocks content

-- an open store of the blocks of a CARv1 file
abbrev pub IsStoreOf : List ℕ → Object → Type 0
IsStoreOf = IsStoreAfter []

-- the blocks of the open store that a handle holds, or none
abbrev pub open_blocks : Option Object → Blocks
open_blocks (Some (held.Open store)) = store
open_blocks other = []

-- a handle holds an open store, to which some of a file's first sections were added
abbrev pub HasBegunToAdd : List ℕ → Option Object → Option Object → Type 0
HasBegunToAdd file before after =
    (old : Blocks) × (new : Blocks) × (before ≡ Some (held.Open old)) × (after ≡ Some (held.Open new))
    × HasBegun old file new

-- What a call returns that reads a CARv1 file into a handle. An open store has the file's blocks too, and anything else
-- is replaced by a store of them. If memory runs out, an open store may have got the blocks of the file's first sections.
abbrev pub HasRead : List ℕ → Option Object → Option Object → Status → Type 0
HasRead file before after Done =
    (content : Object) × (after ≡ Some content) × IsStoreAfter (open_blocks before) file content
HasRead file before after Memory = (after ≡ before) ⊎ HasBegunToAdd file before after
HasRead file before after Refused =
    (line : Vec ℕ) × (after ≡ Some (held.Refusal line)) × IsStoreFailure file (failures.Refused line)
HasRead file before after Handle = ⊥
HasRead file before after Known = ⊥
HasRead file before after NoCid = ⊥
HasRead file before after Range = ⊥

-- What is answered for a file whose blocks are to be added to what a handle holds: none where it is no open store, and
-- else whether they were added.
abbrev pub IsAddedFrom : List ℕ → Object → Object → Option (Result (Unit {0}) Failure) → Type 0
IsAddedFrom file before after (Some (Ok done)) =
    (old : Blocks) × (new : Blocks) × (before ≡ held.Open old) × (after ≡ held.Open new)
    × (blocks_after old file ≡ Ok new)
IsAddedFrom file before after (Some (Err failure)) =
    (old : Blocks) × (new : Blocks) × (before ≡ held.Open old) × (after ≡ held.Open new)
    × IsStoreFailure file failure × IsLeftBy failure old file new
IsAddedFrom file before after None = (after ≡ before) × IsNoOpen (Some before)

-- the one job of a job file, without a base
abbrev pub IsJobOf : List ℕ → Object → Type 0
IsJobOf file (held.Job request) =
    (request.base ≡ None) × (jobs_of file ≡ Ok (request.job ∷ []))
IsJobOf file (held.Open store) = ⊥
IsJobOf file (held.Frozen store) = ⊥
IsJobOf file (held.Exported out) = ⊥
IsJobOf file (held.Accepted counts) = ⊥
IsJobOf file (held.Rejected rejection) = ⊥
IsJobOf file (held.Text text) = ⊥
IsJobOf file (held.Refusal line) = ⊥

-- the job of these parts, without a base
abbrev pub IsJobOfParts : List ℕ → List ℕ → ℕ → Object → Type 0
IsJobOfParts roots selector limit (held.Job request) =
    (request.base ≡ None) × (job_of_parts roots selector limit ≡ Ok request.job)
IsJobOfParts roots selector limit (held.Open store) = ⊥
IsJobOfParts roots selector limit (held.Frozen store) = ⊥
IsJobOfParts roots selector limit (held.Exported out) = ⊥
IsJobOfParts roots selector limit (held.Accepted counts) = ⊥
IsJobOfParts roots selector limit (held.Rejected rejection) = ⊥
IsJobOfParts roots selector limit (held.Text text) = ⊥
IsJobOfParts roots selector limit (held.Refusal line) = ⊥

-- the hex of the selector of a JSON text
abbrev pub IsSelectorTextOf : List ℕ → Object → Type 0
IsSelectorTextOf json (held.Text hex) = IsSelectorHex json (hex.items ++ 10 ∷ [])
IsSelectorTextOf json (held.Open store) = ⊥
IsSelectorTextOf json (held.Frozen store) = ⊥
IsSelectorTextOf json (held.Job job) = ⊥
IsSelectorTextOf json (held.Exported out) = ⊥
IsSelectorTextOf json (held.Accepted counts) = ⊥
IsSelectorTextOf json (held.Rejected rejection) = ⊥
IsSelectorTextOf json (held.Refusal line) = ⊥

-- what an export of a job over these blocks leaves, without what its receiver has
abbrev pub HasExportedOf : Blocks → Request → Exported → Type 0
HasExportedOf blocks request out = HasExported (known_to request) blocks request.job out

abbrev pub IsExportOf : Blocks → Request → Object → Type 0
IsExportOf blocks request (held.Exported out) = HasExportedOf blocks request out
IsExportOf blocks request (held.Open store) = ⊥
IsExportOf blocks request (held.Frozen store) = ⊥
IsExportOf blocks request (held.Job other) = ⊥
IsExportOf blocks request (held.Accepted counts) = ⊥
IsExportOf blocks request (held.Rejected rejection) = ⊥
IsExportOf blocks request (held.Text text) = ⊥
IsExportOf blocks request (held.Refusal line) = ⊥

-- no failure
abbrev pub IsNoFailure : Failure → Type 0
IsNoFailure failure = ⊥

-- an open store that has been handed a block, of which this was reported
abbrev pub HasAddedAs : Added → List ℕ → List ℕ → Option Object → Option Object → Type 0
HasAddedAs told cid block before after =
    (old : Blocks) × (new : Blocks) × (before ≡ Some (held.Open old)) × (after ≡ Some (held.Open new))
    × HasAdded old cid block new told

-- what a call returns that adds a block to an open store
abbrev pub HasAddedTo : List ℕ → List ℕ → Option Object → Option Object → Status → Type 0
HasAddedTo cid block before after Done = HasAddedAs added.New cid block before after
HasAddedTo cid block before after Known = HasAddedAs added.Known cid block before after
HasAddedTo cid block before after NoCid = HasAddedAs added.NoCid cid block before after
HasAddedTo cid block before after Memory = after ≡ before
HasAddedTo cid block before after Handle = (after ≡ before) × IsNoOpen before
HasAddedTo cid block before after Refused = ⊥
HasAddedTo cid block before after Range = ⊥

-- what a call returns that freezes an open store
abbrev pub HasFrozen : Option Object → Option Object → Status → Type 0
HasFrozen before after Done =
    (store : Blocks) × (frozen : Object) × (before ≡ Some (held.Open store)) × (after ≡ Some frozen)
    × IsFrozen store frozen
HasFrozen before after Memory = after ≡ before
HasFrozen before after Handle = (after ≡ before) × IsNoOpen before
HasFrozen before after Refused = ⊥
HasFrozen before after Known = ⊥
HasFrozen before after NoCid = ⊥
HasFrozen before after Range = ⊥

-- the handle holds no job
abbrev pub IsNoJob : Option Object → Type 0
IsNoJob content = (request : Request) → content ≢ Some (held.Job request)

-- what a call returns that makes a job expand each CID once
abbrev pub HasOnce : Option Object → Option Object → Status → Type 0
HasOnce before after Done =
    (request : Request) × (before ≡ Some (held.Job request)) × (after ≡ Some (held.Job (once_of request)))
HasOnce before after Handle = (after ≡ before) × IsNoJob before
HasOnce before after Memory = ⊥
HasOnce before after Refused = ⊥
HasOnce before after Known = ⊥
HasOnce before after NoCid = ⊥
HasOnce before after Range = ⊥

-- what a call returns that gives a job this base
abbrev pub HasBase : Arc Blocks Global → Option Object → Option Object → Status → Type 0
HasBase base before after Done =
    (request : Request) × (before ≡ Some (held.Job request)) × (after ≡ Some (held.Job (with_base base request)))
HasBase base before after Handle = (after ≡ before) × IsNoJob before
HasBase base before after Memory = ⊥
HasBase base before after Refused = ⊥
HasBase base before after Known = ⊥
HasBase base before after NoCid = ⊥
HasBase base before after Range = ⊥

-- a handle holds a frozen store of these blocks
abbrev pub HoldsFrozen : Blocks → Option Object → Type 0
HoldsFrozen store None = ⊥
HoldsFrozen store (Some content) = IsFrozen store content

-- these are no frozen store and a job
abbrev pub AreNoneToExport : Option Object → Option Object → Type 0
AreNoneToExport store job =
    (blocks : Blocks) (wanted : Request) → HoldsFrozen blocks store → job ≢ Some (held.Job wanted)

-- what a call returns that has a job leave out what is sound in the frozen store of a handle, the base
abbrev pub HasLeftOut : Option Object → Option Object → Option Object → Status → Type 0
HasLeftOut base before after Done =
    (blocks : Arc Blocks Global) × HoldsFrozen (arc_value blocks) base × HasBase blocks before after Done
HasLeftOut base before after Memory = after ≡ before
HasLeftOut base before after Handle = (after ≡ before) × AreNoneToExport base before
HasLeftOut base before after Refused = ⊥
HasLeftOut base before after Known = ⊥
HasLeftOut base before after NoCid = ⊥
HasLeftOut base before after Range = ⊥

-- a handle holds what an export of this job over these blocks leaves
abbrev pub HoldsExport : Blocks → Request → Option Object → Type 0
HoldsExport store request None = ⊥
HoldsExport store request (Some content) = IsExportOf store request content

-- what a call returns that makes one more handle of a frozen store
abbrev pub HasShared : Option Object → Option Object → Option Object → Status → Type 0
HasShared store before after Done = (blocks : Blocks) × HoldsFrozen blocks store × HoldsFrozen blocks after
HasShared store before after Memory = after ≡ before
HasShared store before after Handle = (after ≡ before) × ((blocks : Blocks) → HoldsFrozen blocks store → ⊥)
HasShared store before after Refused = ⊥
HasShared store before after Known = ⊥
HasShared store before after NoCid = ⊥
HasShared store before after Range = ⊥

-- what a call returns that exports a job over a frozen store
abbrev pub IsExported : Option Object → Option Object → Option Object → Option Object → Status → Type 0
IsExported store job before after Done =
    (blocks : Blocks) × (wanted : Request) × HoldsFrozen blocks store × (job ≡ Some (held.Job wanted))
    × HoldsExport blocks wanted after
IsExported store job before after Memory = after ≡ before
IsExported store job before after Handle = (after ≡ before) × AreNoneToExport store job
IsExported store job before after Refused = ⊥
IsExported store job before after Known = ⊥
IsExported store job before after NoCid = ⊥
IsExported store job before after Range = ⊥

-- what is answered for these two, before a handle is filled with it: none where they are no frozen store and a job
abbrev pub IsExportedOf : Object → Object → Option (Result Exported AllocError) → Type 0
IsExportedOf store job (Some (Ok out)) =
    (blocks : Blocks) × (wanted : Request) × IsFrozen blocks store × (job ≡ held.Job wanted)
    × HasExportedOf blocks wanted out
IsExportedOf store job (Some (Err e)) = Unit {0}
IsExportedOf store job None = (blocks : Blocks) (wanted : Request) → IsFrozen blocks store → job ≢ held.Job wanted

-- one more owner of the store that this is, before a handle is filled with it: none where it is no frozen store
abbrev pub IsOwnerOf : Object → Option (Result (Arc Blocks Global) AllocError) → Type 0
IsOwnerOf content (Some (Ok owner)) = IsFrozen (arc_value owner) content
IsOwnerOf content (Some (Err e)) = Unit {0}
IsOwnerOf content None = (blocks : Blocks) → IsFrozen blocks content → ⊥

-- which blocks may be missing, by the flags of C: 1 for raw ones, and 2 for those of DAG-CBOR
abbrev pub allowed_by : ℕ → Option AllowMissing
allowed_by flags =
    if flags == 0 then Some (record { raw = false; dag_cbor = false }) else
    (if flags == 1 then Some (record { raw = true; dag_cbor = false }) else
    (if flags == 2 then Some (record { raw = false; dag_cbor = true }) else
    (if flags == 3 then Some (record { raw = true; dag_cbor = true }) else None)))

-- a handle holds what was found of an archive, which is done if the archive is accepted and refused if not; or nothing is
-- changed, for lack of memory
abbrev pub HasFound : Checked → Option Object → Option Object → Status → Type 0
HasFound (Own counts) before after status = IsFilled (held.Accepted counts) before after status
HasFound (Rejected rejection) before after Refused = after ≡ Some (held.Rejected rejection)
HasFound (Rejected rejection) before after Memory = after ≡ before
HasFound (Rejected rejection) before after other = ⊥

-- what a check of an archive finds, before a handle is filled with it: none if this is no job
abbrev pub IsCheckFound : List ℕ → AllowMissing → Object → Option (Result Checked AllocError) → Type 0
IsCheckFound archive allowed job (Some (Ok found)) =
    (wanted : Request) × (job ≡ held.Job wanted) × IsCheckOf wanted.job allowed archive found
IsCheckFound archive allowed job (Some (Err e)) = Unit {0}
IsCheckFound archive allowed job None = (wanted : Request) → job ≢ held.Job wanted

-- what a call returns that checks whether an archive is the own one of a job
abbrev pub IsChecked : List ℕ → AllowMissing → Option Object → Option Object → Option Object → Status → Type 0
IsChecked archive allowed job before after Done =
    (wanted : Request) × (counts : Counts) × (job ≡ Some (held.Job wanted)) × (after ≡ Some (held.Accepted counts))
    × IsCheckOf wanted.job allowed archive (Own counts)
IsChecked archive allowed job before after Refused =
    (wanted : Request) × (rejection : Rejection) × (job ≡ Some (held.Job wanted)) × (after ≡ Some (held.Rejected rejection))
    × IsCheckOf wanted.job allowed archive (Rejected rejection)
IsChecked archive allowed job before after Memory = after ≡ before
IsChecked archive allowed job before after Handle = (after ≡ before) × IsNoJob job
IsChecked archive allowed job before after Known = ⊥
IsChecked archive allowed job before after NoCid = ⊥
IsChecked archive allowed job before after Range = ⊥

-- the same by flags, of which others than these are out of range
abbrev pub IsCheckedBy : List ℕ → Option AllowMissing → Option Object → Option Object → Option Object → Status → Type 0
IsCheckedBy archive None job before after status = (status ≡ Range) × (after ≡ before)
IsCheckedBy archive (Some allowed) job before after status = IsChecked archive allowed job before after status
