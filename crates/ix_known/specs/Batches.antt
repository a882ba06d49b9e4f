-- The sections of a base's file, a batch at a time.
use Rattle.std.specs.Prelude.{ℕ, ◌-◌, ◌≤◌, List, length, IsOkAnd}
use Rattle.ix_store.specs.Store.{Blocks}
use Rattle.ix_sections.specs.declared.fault.CarFault.{CarFault}
use Rattle.ix_sections.specs.Gives.{FailsAs}
use Rattle.ix_sections.specs.Reading.{sections_at}
use Rattle.ix_known.specs.declared.places.Places.{Places}
use Rattle.ix_known.specs.Places.{ArePlacesOf}

-- an error of the sections that end a file of so many bytes, whatever blocks there are before
abbrev pub IsFaultIn : ℕ → List ℕ → CarFault → Type 0
IsFaultIn size b e = (e.place ≤ size) × ((base : Blocks) → FailsAs e.kind (size - e.place) (sections_at (length b) base b))

-- the blocks of these sections were added
abbrev pub AddsSections : Blocks → Places → Places → List ℕ → Type 0
AddsSections store old new b = (base : Blocks) → ArePlacesOf store base old → IsOkAnd (sections_at (length b) base b) (λ more. ArePlacesOf store more new)
