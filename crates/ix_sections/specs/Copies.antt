-- The copies of blocks in the sections of files.
use Rattle.std.specs.Prelude.{ℕ, List, ◌++◌, map, Result, Ok, Err}
use Rattle.ix_store.specs.Store.{Blocks}
use Rattle.ix_sections.specs.Reading.{Fault}
use Rattle.ix_sections.specs.Sections.{SectionMeaning}

-- the CID and the block of a section
abbrev pub copy_of : SectionMeaning → List ℕ × List ℕ
copy_of s = (s.cid, s.block)

-- the copies in sections, in their order
abbrev pub copies_of : List SectionMeaning → Blocks
copies_of sections = map copy_of sections

-- copies and, after them, those in a file's sections, or the file's error
abbrev pub with_copies : Blocks → Result (List SectionMeaning) Fault → Result Blocks Fault
with_copies copies (Ok sections) = Ok (copies ++ copies_of sections)
with_copies copies (Err e) = Err e
