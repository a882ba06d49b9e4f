-- The blocks of a file and of those beside it.
use Rattle.std.specs.Prelude.{◌≡◌, ℕ, List, [], ◌∷◌, ◌++◌, Result, Ok, Err}
use Rattle.ix_store.specs.Store.{Blocks}
use Rattle.ix_sections.specs.Reading.{Fault}
use Rattle.ix_sections.specs.Sections.{SectionMeaning}
use Rattle.ix_sections.specs.Copies.{copies_of}
use Rattle.ix_sections.specs.declared.files.loader.Copies.{Copies}
use Rattle.ix_verify.specs.Found.{store_of, later_of}

-- the sections that were read; none of a file that is rejected
abbrev pub sections_read : Result (List SectionMeaning) Fault → List SectionMeaning
sections_read (Ok sections) = sections
sections_read (Err e) = []

-- the sections of a file were read
abbrev pub IsRead : Result (List SectionMeaning) Fault → Type 0
IsRead read = read ≡ Ok (sections_read read)

-- the store of a file and then of others, and how many of its blocks are a later copy, or the file's error
abbrev pub blocks_beside : Copies → List (List SectionMeaning) → Result (List SectionMeaning) Fault → Result (Blocks × ℕ) Fault
blocks_beside copies others (Ok sections) = Ok (store_of copies (sections ∷ others), later_of copies (sections ∷ others))
blocks_beside copies others (Err e) = Err e

-- copies, and after them those in the sections of each file
abbrev pub with_copies_in : Blocks → List (List SectionMeaning) → Blocks
with_copies_in copies [] = copies
with_copies_in copies (sections ∷ files) = with_copies_in (copies ++ copies_of sections) files
