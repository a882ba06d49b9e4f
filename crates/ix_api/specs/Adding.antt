-- What becomes of blocks that are to be added: of one, and of those of a file.
use Rattle.std.specs.Prelude.{◌≡◌, ℕ, true, false, List, [], ◌∷◌, ◌++◌, take, Result, Ok, Err}
use Rattle.ix_cid.specs.Cid.{IsCid}
use Rattle.ix_store.specs.Store.{Blocks, has_cid}
use Rattle.ix_sections.specs.Reading.{Fault}
use Rattle.ix_sections.specs.Sections.{SectionMeaning, section_list, with_sections}
use Rattle.ix_api.specs.declared.failure.Failure.{Failure}
use Rattle.ix_api.specs.declared.failure.Failure.TheVariants as failures
use Rattle.ix_api.specs.declared.input.Added.{Added}
use Rattle.ix_api.specs.declared.input.Added.TheVariants.{New, Known, NoCid, Memory}

-- A store, the bytes of a CID, a block, the store after, and what was answered: a block is last where its CID is a
-- new one, and else nothing is changed.
abbrev pub HasAdded : Blocks → List ℕ → List ℕ → Blocks → Added → Type 0
HasAdded before cid block after New =
    IsCid cid × (has_cid before cid ≡ false) × (after ≡ before ++ (cid, block) ∷ [])
HasAdded before cid block after Known = IsCid cid × (has_cid before cid ≡ true) × (after ≡ before)
HasAdded before cid block after NoCid = (IsCid cid → ⊥) × (after ≡ before)
HasAdded before cid block after Memory = after ≡ before

-- the sections of a CARv1 file, or none if it has an error
abbrev pub sections_of : List ℕ → List SectionMeaning
sections_of file = read (section_list file) where
  read : Result (List SectionMeaning) Fault → List SectionMeaning
  read (Ok sections) = sections
  read (Err fault) = []

-- the blocks of some of a file's first sections were added to a store, the first of each CID
abbrev pub HasBegun : Blocks → List ℕ → Blocks → Type 0
HasBegun before file after = (count : ℕ) × (after ≡ with_sections before (take count (sections_of file)))

-- The store after a failure: a file that is rejected adds nothing. If memory runs out, some of its first sections were
-- added.
abbrev pub IsLeftBy : Failure → Blocks → List ℕ → Blocks → Type 0
IsLeftBy (failures.Refused line) before file after = after ≡ before
IsLeftBy failures.Memory before file after = HasBegun before file after
