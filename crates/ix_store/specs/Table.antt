-- The blocks of a store: the files with their bytes, and where each block is.
use Rattle.std.specs.Prelude.{◌≡◌, ℕ, ◌+◌, ◌*◌, ◌/◌, ◌%◌, ◌^◌, ◌<◌, ◌≤◌, List, [], ◌∷◌, ◌++◌, length, take, drop, map, get_or}
use Rattle.std.specs.Arc.{arc_value}
use Rattle.ix_store.specs.Store.{Blocks, with_blocks}
use Rattle.ix_store.specs.declared.table.File.{File}
use Rattle.ix_store.specs.declared.table.File.TheVariants.{Shared, Copied}
use Rattle.ix_store.specs.declared.table.Entry.{Entry}

-- the bytes of a range, or those of them that exist
abbrev pub part_of : List ℕ → ℕ → ℕ → List ℕ
part_of bytes start size = take size (drop start bytes)

-- the bytes of a file
abbrev pub file_bytes : File → List ℕ
file_bytes (Shared bytes) = (arc_value bytes).items
file_bytes (Copied bytes) = bytes.items

-- the bytes of each file, and after them of the open buffer
abbrev pub files_of : List File → List ℕ → List (List ℕ)
files_of files buffer = map file_bytes files ++ buffer ∷ []

-- the bytes of the file with this number, or none
abbrev pub file_at : List (List ℕ) → ℕ → List ℕ
file_at files number = get_or files number []

-- the number of the file of an entry
abbrev pub file_in : Entry → ℕ
file_in e = e.packed / 2 ^ 8

-- where its CID begins in the file, and the sizes of the CID and the block: 32 bits, and upper bits that are packed
abbrev pub place_of : Entry → ℕ
place_of e = e.place + e.uppers / 2 ^ 16 * 2 ^ 32

abbrev pub cid_size_of : Entry → ℕ
cid_size_of e = e.cid_size + e.packed % 2 ^ 8 * 2 ^ 32

abbrev pub block_size_of : Entry → ℕ
block_size_of e = e.size + e.uppers % 2 ^ 16 * 2 ^ 32

-- a CID of so many bytes at a place of a file, and the block right after it
abbrev pub section_in : List (List ℕ) → ℕ → ℕ → ℕ → ℕ → List ℕ × List ℕ
section_in files number place cid_size size = (part_of (file_at files number) place cid_size, part_of (file_at files number) (place + cid_size) size)

-- the CID and the block of an entry
abbrev pub pair_in : List (List ℕ) → Entry → List ℕ × List ℕ
pair_in files e = section_in files (file_in e) (place_of e) (cid_size_of e) (block_size_of e)

abbrev pub block_in : List (List ℕ) → Entry → List ℕ
block_in files e = part_of (file_at files (file_in e)) (place_of e + cid_size_of e) (block_size_of e)

-- an entry of a file's number, a place in it, and the sizes of the CID and the block
pub record IsEntryOf (n p c s : ℕ) (e : Entry) : Type 0 where
  pub file : file_in e ≡ n
  pub place : place_of e ≡ p
  pub cid_size : cid_size_of e ≡ c
  pub size : block_size_of e ≡ s

-- there is a file with this number, and it has so many bytes
abbrev pub IsRange : List (List ℕ) → ℕ → ℕ → Type 0
IsRange files number end = (number < length files) × (end ≤ length (file_at files number))

-- an entry is within its file
abbrev pub IsWithin : List (List ℕ) → Entry → Type 0
IsWithin files e = IsRange files (file_in e) (place_of e + cid_size_of e + block_size_of e)

-- bytes were appended to the last file
abbrev pub IsAppended : List (List ℕ) → List ℕ → List (List ℕ) → Type 0
IsAppended old bytes new = (front : List (List ℕ)) (last : List ℕ) → old ≡ front ++ last ∷ [] → new ≡ front ++ (last ++ bytes) ∷ []

-- what contracts see of a table, and of a builder of a store
pub record TableMeaning : Type 0 where
  pub files : List (List ℕ)
  pub pairs : Blocks

-- a file more, after which a buffer is open
abbrev pub with_file : TableMeaning → List ℕ → TableMeaning
with_file t file = record { files = t.files ++ file ∷ [] ∷ []; pairs = t.pairs }

-- the pairs that count, if the first ones, so many, have distinct CIDs: of the others, the first of each CID
abbrev pub pairs_counted : ℕ → Blocks → Blocks
pairs_counted distinct pairs = with_blocks (take distinct pairs) (drop distinct pairs)
