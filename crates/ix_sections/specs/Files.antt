-- What is read of files of blocks, one after the other.
use Rattle.std.specs.Prelude.{◌≡◌, ◌≢◌, ℕ, ◌+◌, ◌-◌, Bool, true, false, List, [], ◌∷◌, length, take, drop, Result, Ok, Err}
use Rattle.std.specs.Global.{Vec}
use Rattle.ix_store.specs.Store.{Blocks}
use Rattle.ix_store.specs.Sound.{sound_copies, later_count}
use Rattle.ix_sections.specs.declared.fault.CarKind.TheVariants.{Memory}
use Rattle.ix_sections.specs.declared.fault.CarFault.{CarFault}
use Rattle.ix_sections.specs.Copies.{with_copies}
use Rattle.ix_sections.specs.Payload.{payload_of}
use Rattle.ix_sections.specs.Reading.{Fault, ◌>>=◌, blocks_after}
use Rattle.ix_sections.specs.Sections.{section_list}
use Rattle.ix_sections.specs.declared.files.loader.Copies.{Copies}
use Rattle.ix_sections.specs.declared.files.loader.Copies.TheVariants.{First, Sound}
use Rattle.ix_sections.specs.declared.files.fault.FileFault.{FileFault}
use Rattle.ix_sections.specs.declared.files.store.Reading.{Reading}

-- an error in bytes up to an offset of a file, at its offset in the file
abbrev pub placed : {A : Type 0} → ℕ → Result A Fault → Result A CarFault
placed end (Ok x) = Ok x
placed end (Err f) = Err (record { kind = f.kind; place = end - f.left })

-- an error of the file of this number
abbrev pub in_file : {A : Type 0} → ℕ → Result A CarFault → Result A FileFault
in_file number (Ok x) = Ok x
in_file number (Err e) = Err (record { file = number; fault = e })

-- where the CARv1 file in a file begins and ends: it is all of the file, unless CARv2 is read
abbrev pub payload_by : Bool → List ℕ → Result (ℕ × ℕ) Fault
payload_by false b = Ok (0, length b)
payload_by true b = payload_of b

-- the blocks of a CARv1 file after those that were read: the first of each CID, or each copy
abbrev pub with_car : Copies → Blocks → List ℕ → Result Blocks Fault
with_car First read car = blocks_after read car
with_car Sound read car = with_copies read (section_list car)

-- the bytes between two offsets
abbrev pub part_of : List ℕ → ℕ × ℕ → List ℕ
part_of b p = drop p.0 (take p.1 b)

-- the blocks of a file after those that were read, or its first error
abbrev pub with_file : Bool → Copies → Blocks → List ℕ → Result Blocks CarFault
with_file carv2 copies read b = placed (length b) (payload_by carv2 b) >>= (λ p. placed p.1 (with_car copies read (part_of b p)))

-- the same of files, which are numbered from n on, or the first error and its file
abbrev pub with_files : Reading → ℕ → Blocks → List (Vec ℕ) → Result Blocks FileFault
with_files reading n read [] = Ok read
with_files reading n read (b ∷ files) = in_file n (with_file reading.carv2 reading.copies read b.items) >>= (λ more. with_files reading (n + 1) more files)

-- what is read of files, or the first error and its file
abbrev pub read_of : Reading → List (Vec ℕ) → Result Blocks FileFault
read_of reading files = with_files reading 0 [] files

-- the blocks of what was read that count
abbrev pub blocks_by : Copies → Blocks → Blocks
blocks_by First read = read
blocks_by Sound read = sound_copies read

-- how many of these are a later copy
abbrev pub later_by : Copies → Blocks → ℕ
later_by First read = 0
later_by Sound read = later_count read

-- the store of files, and how many of its blocks are a later copy
pub record IsStoreOf (reading : Reading) (files : List (Vec ℕ)) (store : Blocks) (later : ℕ) : Type 0 where
  pub read : Blocks
  pub read_is : read_of reading files ≡ Ok read
  pub store_is : store ≡ blocks_by reading.copies read
  pub later_is : later ≡ later_by reading.copies read

-- this was read of files
abbrev pub HasRead : Reading → List (Vec ℕ) → Blocks → Type 0
HasRead reading files read = read_of reading files ≡ Ok read

-- the first error of a file, unless memory ran out
abbrev pub IsReadFault : Result Blocks CarFault → CarFault → Type 0
IsReadFault read e = e.kind ≢ Memory → read ≡ Err e

-- the first error of files, and its file, unless memory ran out
abbrev pub IsFirstFault : Reading → List (Vec ℕ) → FileFault → Type 0
IsFirstFault reading files e = e.fault.kind ≢ Memory → read_of reading files ≡ Err e
