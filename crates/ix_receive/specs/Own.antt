-- Archives that are their own: what a receiver can check without the sender's store.
use Rattle.std.specs.Prelude.{◌≡◌, ℕ, true, false, List, [], ◌∷◌, ◌++◌, None, Some, flat_map}
use Rattle.std.specs.List.{AllByRecursion}
use Rattle.ix_selector.specs.Pattern.{IsSelector}
use Rattle.ix_verdict.specs.Verdict.{verdict_with, is_sound}
use Rattle.ix_store.specs.Store.{Blocks, has_cid}
use Rattle.ix_walk.specs.JobMeaning.{JobMeaning}
use Rattle.ix_walk.specs.Visits.{is_over_limit}
use Rattle.ix_sections.specs.Writing.{header_of, section_with}
use Rattle.ix_car.specs.Archive.{Known, archive_of}
use Rattle.ix_car.specs.Restoring.{difference_pairs}
use Rattle.ix_car.specs.Laws.{once}

-- the archive of roots and sections, each a CID and its block
abbrev pub archive_bytes : List (List ℕ) → Blocks → List ℕ
archive_bytes roots sections = header_of roots ++ flat_map (λ p. section_with p.0 (Some p.1)) sections

-- the CIDs that a receiver with a base has; with an empty one, none is known
abbrev pub base_known : Blocks → Known
base_known [] = None
base_known (p ∷ ps) = Some (λ c. has_cid (p ∷ ps) c)

-- the sections in the archive of the job with this number, without those of the CIDs that a base has
abbrev pub new_pairs : Blocks → Blocks → ℕ → JobMeaning → Blocks
new_pairs base store number job = difference_pairs (base_known base) store number job

-- all of them
abbrev pub archive_pairs : Blocks → ℕ → JobMeaning → Blocks
archive_pairs = new_pairs []

-- Each section is sound by itself. Over a base and the sections as a store the job is within its limit, and its archive without
-- what the base has is the same sections in the same order. A store has one block under a CID, which is that of the first pair, so
-- no CID is there twice.
pub record AreTheirOwnWith (base : Blocks) (number : ℕ) (job : JobMeaning) (sections : Blocks) : Type 0 where
  pub sound : AllByRecursion (λ p. is_sound (verdict_with p.0 (Some p.1)) ≡ true) sections
  pub within : is_over_limit (base ++ sections) job ≡ false
  pub same : new_pairs base (base ++ sections) number job ≡ sections

-- with no base
abbrev pub AreTheirOwn : ℕ → JobMeaning → Blocks → Type 0
AreTheirOwn = AreTheirOwnWith []

-- an archive is its own with a base: it has the job's roots, and sections that are their own
abbrev pub IsItsOwnWith : Blocks → ℕ → JobMeaning → List ℕ → Type 0
IsItsOwnWith base number job archive =
    (sections : Blocks) × (archive ≡ archive_bytes job.roots sections) × AreTheirOwnWith base number job sections

-- with no base
abbrev pub IsItsOwn : ℕ → JobMeaning → List ℕ → Type 0
IsItsOwn = IsItsOwnWith []

-- the archive of a job within its limit is its own, traversed with link-visit-once
abbrev pub ArchiveIsItsOwn : Type 0
ArchiveIsItsOwn =
    (store : Blocks) (number : ℕ) (job : JobMeaning) → IsSelector job.selector → is_over_limit store job ≡ false
    → IsItsOwn number (once job) (archive_of store number job)

-- an archive that is its own is, byte for byte, that of the job over the store of its sections
abbrev pub OwnArchiveIsOfItsStore : Type 0
OwnArchiveIsOfItsStore =
    (number : ℕ) (job : JobMeaning) (sections : Blocks) → AreTheirOwn number job sections
    → archive_of sections number job ≡ archive_bytes job.roots sections
