-- What a section of a base says of the blocks of a store.
use Rattle.std.specs.Prelude.{◌≡◌, ℕ, true, List, [], ◌∷◌, Some, IfSome, slice_get}
use Rattle.ix_store.specs.Store.{Blocks, position_of}
use Rattle.ix_store.specs.Sound.{verdict_of_copy}
use Rattle.ix_store.specs.declared.places.PlaceSet.{PlaceSet}
use Rattle.ix_store.specs.PlaceSet.{contains_place}
use Rattle.ix_sections.specs.declared.reader.sections.Section.{Section}
use Rattle.ix_sections.specs.SectionView.{section_of}
use Rattle.ix_sections.specs.Copies.{copy_of}
use Rattle.ix_verdict.specs.Verdict.{is_sound}
use Rattle.ix_known.specs.declared.finding.Finding.{Finding}
use Rattle.ix_known.specs.declared.finding.Finding.TheVariants.{Nothing, CopyOf, NoMemory}
use Rattle.ix_known.specs.declared.places.Places.{Places}
use Rattle.ix_known.specs.Places.{AddsBlocks}

-- the CID and the block of a section
abbrev pub pair_of : Section → List ℕ × List ℕ
pair_of s = copy_of (section_of s)

-- what is found of a CID and its block, beside what is decided
abbrev pub IsFinding : Blocks → PlaceSet → List ℕ × List ℕ → Finding → Type 0
IsFinding store decided p Nothing = (place : ℕ) → position_of store p.0 ≡ Some place → contains_place decided place ≡ true
IsFinding store decided p (CopyOf place sound) = (position_of store p.0 ≡ Some place) × (sound ≡ is_sound (verdict_of_copy p))
IsFinding store decided p NoMemory = Unit {0}

-- what is found of the one with this number, if there is one
abbrev pub IsFindingAt : Blocks → PlaceSet → Blocks → ℕ → Finding → Type 0
IsFindingAt store decided pairs number finding = IfSome (slice_get pairs number) (λ p. IsFinding store decided p finding)

-- what was found of a CID and its block was taken in: the block was added
abbrev pub TakesIn : Places → Places → Finding → Type 0
TakesIn old new finding = (store : Blocks) (p : List ℕ × List ℕ) → IsFinding store old.decided p finding → AddsBlocks store old new (p ∷ [])

-- a set has all positions of another
abbrev pub HasAllOf : PlaceSet → PlaceSet → Type 0
HasAllOf new old = (n : ℕ) → contains_place old n ≡ true → contains_place new n ≡ true
