-- What a base and a difference restore.
use Rattle.std.specs.Prelude.{◌≡◌, ℕ, true, false, List, [], ◌∷◌, Option, None, Some, map, flat_map, All}
use Rattle.ix_store.specs.Store.{Blocks, block_of}
use Rattle.ix_walk.specs.JobMeaning.{JobMeaning}
use Rattle.ix_walk.specs.Visits.{is_over_limit}
use Rattle.ix_car.specs.Verified.{verified, judged_visits}
use Rattle.ix_car.specs.Archive.{Known, new_sections, archive_of}
use Rattle.ix_known.specs.Known.{knows}
use Rattle.ix_car.specs.Report.{skips_of}

-- the pair of a CID and its block, or nothing if there is no block
abbrev pub pair_with : List ℕ → Option (List ℕ) → Blocks
pair_with c None = []
pair_with c (Some block) = (c, block) ∷ []

-- the CIDs and blocks in the archive of a job without the sections of known CIDs
abbrev pub difference_pairs : Known → Blocks → ℕ → JobMeaning → Blocks
difference_pairs known store number job = flat_map (λ d. pair_with d.visit.cid (block_of store d.visit.cid)) (new_sections known store (verified store number job))

-- the first copies under a CID in a base and in a store are the same if both are sound; a premise, since no proof can exclude two
-- blocks with one digest
abbrev pub AgreesWith : Blocks → Blocks → Type 0
AgreesWith base store = (c : List ℕ) → knows base c ≡ true → knows store c ≡ true → block_of base c ≡ block_of store c

-- a job is within its limit, and skips nothing
pub record IsWithoutSkips (store : Blocks) (number : ℕ) (job : JobMeaning) : Type 0 where
  pub within : is_over_limit store job ≡ false
  pub no_skips : skips_of (judged_visits store number job) ≡ []

-- over another store, the job is within its limit and skips nothing, and its archive is the same, byte for byte
pub record IsRestoredBy (store : Blocks) (number : ℕ) (job : JobMeaning) (other : Blocks) : Type 0 where
  pub done : IsWithoutSkips other number job
  pub same_archive : archive_of other number job ≡ archive_of store number job

-- the CIDs that a job skips, in order
abbrev pub skipped_cids : Blocks → ℕ → JobMeaning → List (List ℕ)
skipped_cids store number job = map (λ s. s.cid) (skips_of (judged_visits store number job))

-- a job is within its limit over a store, and the base has no sound block under a CID that it skips there
pub record SkipsOnlyUnknown (base store : Blocks) (number : ℕ) (job : JobMeaning) : Type 0 where
  pub within : is_over_limit store job ≡ false
  pub unknown : All (λ c. knows base c ≡ false) (skipped_cids store number job)

-- over another store, the archive of the job is the same, byte for byte. If the job is within its limit there, it skips the same
-- CIDs, in the same order; a verdict may be another one, as Damaged for Missing. With link-visit-once it is within its limit; at
-- every link it need not be, since it expands damaged blocks, and each store has its own
pub record IsRestoredBesideSkips (store : Blocks) (number : ℕ) (job : JobMeaning) (other : Blocks) : Type 0 where
  pub same_archive : archive_of other number job ≡ archive_of store number job
  pub same_skips : is_over_limit other job ≡ false → skipped_cids other number job ≡ skipped_cids store number job
  pub once_within : job.once ≡ true → is_over_limit other job ≡ false
