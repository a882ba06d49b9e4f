-- The sections of a file, read a batch at a time.
use Rattle.std.specs.Prelude.{◌≡◌, ℕ, ◌+◌, ◌-◌, ◌<◌, ◌≤◌, List, ◌++◌, length}
use Rattle.std.specs.Borrow.{Bor}
use Rattle.std.specs.Global.{Vec}
use Rattle.ix_sections.specs.declared.fault.CarFault.{CarFault}
use Rattle.ix_sections.specs.declared.reader.sections.Section.{Section}
use Rattle.ix_sections.specs.Gives.{FailsAs}
use Rattle.ix_sections.specs.Sections.{SectionMeaning, sections_after}
use Rattle.ix_sections.specs.SectionView.{views_of}

-- Sections at the front of bytes that end a file of so many, and the bytes after them: whatever sections stand before, these are next.
pub record IsBatchAt (size : ℕ) (b : List ℕ) (r : Vec Section × Bor (List ℕ)) : Type 0 where
  pub read : (before : List SectionMeaning) → sections_after size (length b) before b ≡ sections_after size (length r.1.now) (before ++ views_of r.0) r.1.now
  pub room : length r.0.items + length r.1.now ≤ length b
  pub shorter : length r.1.now < length b

-- a fault of the bytes that end a file of so many, whatever sections stand before
abbrev pub IsBatchFault : ℕ → List ℕ → CarFault → Type 0
IsBatchFault size b e = (e.place ≤ size) × ((before : List SectionMeaning) → FailsAs e.kind (size - e.place) (sections_after size (length b) before b))
