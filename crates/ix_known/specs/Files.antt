-- Which blocks of a store the files of a receiver have.
use Rattle.std.specs.Prelude.{◌≡◌, ℕ, Bool, List, Ok, IsOkAnd}
use Rattle.std.specs.Global.{Vec}
use Rattle.ix_store.specs.Store.{Blocks}
use Rattle.ix_store.specs.declared.places.PlaceSet.{PlaceSet}
use Rattle.ix_sections.specs.declared.files.loader.Copies.TheVariants.{First}
use Rattle.ix_sections.specs.declared.files.store.Reading.{Reading}
use Rattle.ix_sections.specs.Files.{read_of, blocks_by, with_file}
use Rattle.ix_known.specs.Base.{BaseMeaning, IsOfBase}
use Rattle.ix_known.specs.Known.{IsKnownIn}

-- the positions in a store of the blocks of which files have a sound copy that counts
pub record IsKnownByFiles (reading : Reading) (store : Blocks) (files : List (Vec ℕ)) (places : PlaceSet) : Type 0 where
  pub read : Blocks
  pub read_is : read_of reading files ≡ Ok read
  pub known : IsKnownIn store (blocks_by reading.copies read) places

-- a file was added to a base: whatever blocks this had, it has those of the file after them, the first of each CID
abbrev pub AddsBaseFile : Bool → List ℕ → BaseMeaning → BaseMeaning → Type 0
AddsBaseFile carv2 file old new =
    (new.store ≡ old.store) × ((base : Blocks) → IsOfBase old base → IsOkAnd (with_file carv2 First base file) (λ more. IsOfBase new more))
