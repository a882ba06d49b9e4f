-- What the file of a difference and the files of its base restore.
use Rattle.std.specs.Prelude.{◌≡◌, ℕ, List, [], ◌∷◌, Result, Ok}
use Rattle.ix_store.specs.Store.{Blocks}
use Rattle.ix_walk.specs.JobMeaning.{JobMeaning}
use Rattle.ix_sections.specs.Reading.{Fault, ◌>>=◌, blocks_after}
use Rattle.ix_car.specs.Archive.{Known}
use Rattle.ix_car.specs.Verified.{verified}
use Rattle.ix_car.specs.Restoring.{IsRestoredBy, IsRestoredBesideSkips}
use Rattle.ix_verify.specs.Written.{IsArchivableWithout}

-- the difference of a job can be read back
abbrev pub HasReadableDifference : Known → Blocks → ℕ → JobMeaning → Type 0
HasReadableDifference known store number job = IsArchivableWithout known store job.roots (verified store number job)

-- a store with the blocks of files, read one after the other, the first of each CID, or the first error
abbrev pub blocks_after_all : Blocks → List (List ℕ) → Result Blocks Fault
blocks_after_all store [] = Ok store
blocks_after_all store (file ∷ files) = blocks_after store file >>= (λ more. blocks_after_all more files)

-- files are read, one after the other, as this store
abbrev pub AreReadAs : List (List ℕ) → Blocks → Type 0
AreReadAs files store = blocks_after_all [] files ≡ Ok store

-- files are read as a store over which the job is within its limit and skips nothing, and its archive is the same, byte for byte
abbrev pub IsRestoredByFiles : Blocks → ℕ → JobMeaning → List (List ℕ) → Type 0
IsRestoredByFiles store number job files = (other : Blocks) × AreReadAs files other × IsRestoredBy store number job other

-- files are read as a store over which the archive of a job is the same, byte for byte, and so are its skipped CIDs
abbrev pub IsRestoredByFilesBesideSkips : Blocks → ℕ → JobMeaning → List (List ℕ) → Type 0
IsRestoredByFilesBesideSkips store number job files = (other : Blocks) × AreReadAs files other × IsRestoredBesideSkips store number job other
