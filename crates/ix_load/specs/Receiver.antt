-- What becomes known of the blocks of a store by what a receiver has.
use Rattle.std.specs.Prelude.{◌≡◌, ℕ, List, [], ◌∷◌, Option, None, Some}
use Rattle.std.specs.Arc.{arc_value}
use Rattle.std.specs.Borrow.{Bor}
use Rattle.std.specs.Global.{Vec}
use Rattle.ix_store.specs.Store.{Blocks}
use Rattle.ix_store.specs.declared.places.PlaceSet.{PlaceSet}
use Rattle.ix_sections.specs.declared.files.store.Reading.{Reading}
use Rattle.ix_known.specs.Files.{IsKnownByFiles}
use Rattle.ix_jobs.specs.Listing.{IsKnownWith}
use Rattle.ix_load.specs.declared.blocks.LoadedBlocks.{LoadedBlocks}

-- by its files: what they have, or no more than before if there are none
abbrev pub KnowsFiles : Reading → Blocks → List (Vec ℕ) → Option PlaceSet → Option PlaceSet → Type 0
KnowsFiles reading store [] before known = known ≡ before
KnowsFiles reading store (file ∷ files) before known = (places : PlaceSet) × (known ≡ Some places) × IsKnownByFiles reading store (file ∷ files) places

-- by a list of CIDs with these bytes
abbrev pub KnowsListed : Blocks → List ℕ → Option PlaceSet → Option PlaceSet → Type 0
KnowsListed store list before known = (places : PlaceSet) × (known ≡ Some places) × IsKnownWith before store list places

-- by the list at a path, whatever bytes it has, or no more than before if there is none
abbrev pub KnowsList : Option (Bor (List ℕ)) → Blocks → Option PlaceSet → Option PlaceSet → Type 0
KnowsList None store before known = known ≡ before
KnowsList (Some path) store before known = (list : List ℕ) × KnowsListed store list before known

-- over the same store more is known, by files
pub record AddsFiles (reading : Reading) (files : List (Vec ℕ)) (old new : LoadedBlocks) : Type 0 where
  pub same : new.store ≡ old.store
  pub more : KnowsFiles reading (arc_value old.store) files old.known new.known

-- by a list with these bytes
pub record AddsList (list : List ℕ) (old new : LoadedBlocks) : Type 0 where
  pub same : new.store ≡ old.store
  pub more : KnowsListed (arc_value old.store) list old.known new.known

-- by a list, whatever bytes it has
abbrev pub AddsSomeList : LoadedBlocks → LoadedBlocks → Type 0
AddsSomeList old new = (list : List ℕ) × AddsList list old new

-- by files, and then by the list at a path if there is one
pub record AddsKnown (reading : Reading) (list : Option (Bor (List ℕ))) (files : List (Vec ℕ)) (old new : LoadedBlocks) : Type 0 where
  pub same : new.store ≡ old.store
  pub by_files : Option PlaceSet
  pub of_files : KnowsFiles reading (arc_value old.store) files old.known by_files
  pub listed : KnowsList list (arc_value old.store) by_files new.known
