-- The base of a receiver: which blocks of a store it has, file by file.
use Rattle.std.specs.Prelude.{◌≡◌, ℕ, List, IsOkAnd}
use Rattle.ix_store.specs.Store.{Blocks}
use Rattle.ix_sections.specs.declared.fault.CarFault.{CarFault}
use Rattle.ix_sections.specs.Gives.{IsFaultOf}
use Rattle.ix_sections.specs.Reading.{blocks_after}
use Rattle.ix_known.specs.declared.places.Places.{Places}
use Rattle.ix_known.specs.Places.{ArePlacesOf}

-- what contracts see of a base: the blocks of the store, and the positions in it of those of which the base has a copy
pub record BaseMeaning : Type 0 where
  pub store : Blocks
  pub places : Places

-- what is found of a base is that of one with these blocks
abbrev pub IsOfBase : BaseMeaning → Blocks → Type 0
IsOfBase b base = ArePlacesOf b.store base b.places

-- a file was added: whatever blocks the base had, it has those of the file's sections after them, the first of each CID
abbrev pub AddsFile : BaseMeaning → List ℕ → BaseMeaning → Type 0
AddsFile old file new = (new.store ≡ old.store) × ((base : Blocks) → IsOfBase old base → IsOkAnd (blocks_after base file) (λ more. IsOfBase new more))

-- an error is the first of a file that is the end of these bytes, whatever blocks the base had
abbrev pub IsBaseFault : List ℕ → List ℕ → CarFault → Type 0
IsBaseFault whole file e = (base : Blocks) → IsFaultOf whole e (blocks_after base file)
