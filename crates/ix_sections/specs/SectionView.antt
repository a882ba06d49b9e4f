-- A section of the program.
use Rattle.std.specs.Prelude.{◌≡◌, ℕ, ◌-◌, ◌≤◌, List, map, length, Ok, Err}
use Rattle.std.specs.Borrow.{Bor}
use Rattle.std.specs.Global.{Vec}
use Rattle.ix_sections.specs.declared.fault.CarFault.{CarFault}
use Rattle.ix_sections.specs.declared.reader.sections.Section.{Section}
use Rattle.ix_sections.specs.Reading.{section_at}
use Rattle.ix_sections.specs.Sections.{SectionMeaning}

-- what a section is, apart from where its bytes are kept
abbrev pub section_of : Section → SectionMeaning
section_of s = record { place = s.place; cid = s.cid; block = s.block.now }

-- the same of many
abbrev pub views_of : Vec Section → List SectionMeaning
views_of sections = map section_of sections.items

-- the section at the front of bytes that end a file of so many, and the bytes after it
pub record IsSectionAt (size : ℕ) (b : List ℕ) (r : Section × Bor (List ℕ)) : Type 0 where
  pub read : section_at b ≡ Ok ((r.0.cid, r.0.block.now), r.1.now)
  pub place : r.0.place ≡ size - length b

-- there is none, for this fault, whose place is counted from the front of the file
abbrev pub IsSectionFault : ℕ → List ℕ → CarFault → Type 0
IsSectionFault size b e = (e.place ≤ size) × (section_at b ≡ Err (record { kind = e.kind; left = size - e.place }))
