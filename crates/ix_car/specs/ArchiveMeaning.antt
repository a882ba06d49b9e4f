-- An archive as contracts see it.
use Rattle.std.specs.Prelude.{◌≡◌, ◌≢◌, ℕ, List, [], ◌∷◌, ◌++◌, length, Option, None, Some, map}
use Rattle.std.specs.Borrow.{Bor}
use Rattle.ix_store.specs.Store.{Blocks}
use Rattle.ix_store.specs.declared.places.PlaceSet.{PlaceSet}
use Rattle.ix_walk.specs.JobMeaning.{JobMeaning}
use Rattle.ix_car.specs.declared.sink.Delivery.{Delivery}
use Rattle.ix_car.specs.declared.sink.End.{End}
use Rattle.ix_car.specs.Events.{Event, Calls, delivery, close}
use Rattle.ix_car.specs.Kept.{kept}
use Rattle.ix_sections.specs.Writing.{header_of}
use Rattle.ix_car.specs.Archive.{Known, known_at, archive_without}
use Rattle.ix_car.specs.Report.{at_most}

-- an archive: its store and roots, the positions of known blocks, if they are given, what was delivered, the delivery that failed,
-- the close, and its writer
pub record ArchiveMeaning (W : Type 0) : Type 0 where
  pub store : Blocks
  pub roots : List (List ℕ)
  pub known : Option PlaceSet
  pub deliveries : List Delivery
  pub failed : List Delivery
  pub closed : List End
  -- bytes that the writer took
  pub taken : ℕ
  pub writer : W

-- the set that is borrowed, if any
abbrev pub borrowed : Option (Bor PlaceSet) → Option PlaceSet
borrowed None = None
borrowed (Some places) = Some places.now

-- the CIDs whose sections an archive leaves out
abbrev pub known_in : {W : Type 0} → ArchiveMeaning W → Known
known_in a = known_at a.store a.known

-- the events of an archive, as a sink
abbrev pub events_of : {W : Type 0} → ArchiveMeaning W → List Event
events_of a = map delivery a.deliveries ++ map close a.closed

-- what an archive was called with, as a sink
abbrev pub calls_of : {W : Type 0} → ArchiveMeaning W → Calls
calls_of a = record { events = events_of a; failed = a.failed }

-- a part of the bytes from their start, and not all
abbrev pub IsProperPrefix : List ℕ → List ℕ → Type 0
IsProperPrefix a b = (more : List ℕ) × (a ++ more ≡ b) × (more ≢ [])

-- A writer with known bytes has those of the archive so far without the sections of known CIDs, and after a failed delivery a
-- proper part of those with it.
abbrev pub HasWrittenWithout : Known → Option (List ℕ) → Blocks → List (List ℕ) → List Delivery → List Delivery → Type 0
HasWrittenWithout known told store roots ds [] = told ≡ Some (archive_without known store roots (kept ds))
HasWrittenWithout known told store roots ds (d ∷ more) = (bytes : List ℕ) × (told ≡ Some bytes) × IsProperPrefix bytes (archive_without known store roots (kept (ds ++ d ∷ [])))

-- the same of the archive with all sections
abbrev pub HasWritten : Option (List ℕ) → Blocks → List (List ℕ) → List Delivery → List Delivery → Type 0
HasWritten = HasWrittenWithout None

-- the number of the bytes that a writer has, if they are known
abbrev pub IsCountOf : ℕ → Option (List ℕ) → Type 0
IsCountOf taken told = (bytes : List ℕ) → told ≡ Some bytes → taken ≡ at_most 64 (length bytes)

-- An archive over this store and job, without the sections of these known CIDs, has written what it should, and counted it, if its
-- writer had no bytes at first.
pub record HasArchived {W : Type 0} (told : W → Option (List ℕ)) (a : ArchiveMeaning W) (known : Known) (store : Blocks) (job : JobMeaning) (first : Option (List ℕ)) : Type 0 where
  pub same_known : known_in a ≡ known
  pub same_store : a.store ≡ store
  pub same_roots : a.roots ≡ job.roots
  pub written : first ≡ Some [] → HasWrittenWithout known (told a.writer) store job.roots a.deliveries a.failed
  pub counted : first ≡ Some [] → IsCountOf a.taken (told a.writer)

-- an archive with no delivery so far
pub record IsBegun {W : Type 0} (a : ArchiveMeaning W) (store : Blocks) (roots : List (List ℕ)) : Type 0 where
  pub same_store : a.store ≡ store
  pub same_roots : a.roots ≡ roots
  pub no_deliveries : a.deliveries ≡ []
  pub no_failure : a.failed ≡ []
  pub not_closed : a.closed ≡ []

-- a writer took a part of a header, and not the whole
abbrev pub TookPartOfHeader : Option (List ℕ) → List (List ℕ) → Type 0
TookPartOfHeader told roots = (bytes : List ℕ) × (told ≡ Some bytes) × IsProperPrefix bytes (header_of roots)
