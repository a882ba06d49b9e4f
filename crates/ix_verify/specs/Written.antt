-- What an archive has that is read back.
use Rattle.std.specs.Prelude.{◌≡◌, ℕ, ◌+◌, ◌^◌, ◌<◌, List, [], ◌∷◌, ◌++◌, length, Option, Some, None, All}
use Rattle.ix_cid.specs.Cid.{IsCid}
use Rattle.ix_store.specs.Store.{Blocks, block_of}
use Rattle.ix_check.specs.Verdict.{verdict_of}
use Rattle.ix_verdict.specs.declared.verdict.Verdict.TheVariants.{Sound}
use Rattle.ix_car.specs.declared.sink.Delivery.{Delivery}
use Rattle.ix_sections.specs.Writing.{with_length, header_of}
use Rattle.ix_car.specs.Archive.{Known, first_sound, section_of, archive_without}
use Rattle.ix_sections.specs.Sections.{SectionMeaning, placed}
use Rattle.ix_verify.specs.Judged.{section_verdict}

-- the section of a CID at its offset, or none if there is no block
abbrev pub section_where : ℕ → List ℕ → Option (List ℕ) → List SectionMeaning
section_where place c None = []
section_where place c (Some block) = record { place = place; cid = c; block = block } ∷ []

-- the sections of deliveries, each with the store's block; the first is at this place
abbrev pub sections_from : Blocks → ℕ → List Delivery → List SectionMeaning
sections_from store place [] = []
sections_from store place (d ∷ ds) = section_where place d.visit.cid (block_of store d.visit.cid) ++ sections_from store (place + length (section_of store d)) ds

-- the sections of the archive of roots and deliveries: after the header, one for each CID that is sound, at its first delivery
abbrev pub written_sections : Blocks → List (List ℕ) → List Delivery → List SectionMeaning
written_sections store roots ds = sections_from store (length (header_of roots)) (first_sound ds)

-- the sections of pairs of a CID and a block, each at its offset; the first is at this place
abbrev pub sections_with : ℕ → Blocks → List SectionMeaning
sections_with place [] = []
sections_with place (p ∷ ps) = placed place p ∷ sections_with (place + length (with_length (p.0 ++ p.1))) ps

-- a store of CIDs and blocks and roots that are CIDs, as every store and job has them, whose archive without the sections of known
-- CIDs has fewer than 2 ^ 63 bytes, as all that lies in memory has
pub record IsArchivableWithout (known : Known) (store : Blocks) (roots : List (List ℕ)) (ds : List Delivery) : Type 0 where
  pub stored : All (λ (p : List ℕ × List ℕ). IsCid p.0) store
  pub named : All IsCid roots
  pub size : length (archive_without known store roots ds) < 2 ^ 63

-- the same of the archive with all sections
abbrev pub IsArchivable : Blocks → List (List ℕ) → List Delivery → Type 0
IsArchivable = IsArchivableWithout None

-- the verdict of a delivery is the store's
abbrev pub IsJudged : Blocks → Delivery → Type 0
IsJudged store d = d.verdict ≡ verdict_of store d.visit.cid

-- a section is sound by its own bytes
abbrev pub IsSoundByItself : SectionMeaning → Type 0
IsSoundByItself s = section_verdict s.cid s.block ≡ Sound
