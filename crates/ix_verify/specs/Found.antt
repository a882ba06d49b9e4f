-- What is found of a file, as a function of its bytes.
use Rattle.std.specs.Prelude.{◌≡◌, ℕ, Bool, true, not, ◌&&◌, ◌||◌, ◌==◌, List, [], ◌∷◌, length, map, filter, flat_map, codes, Ok}
use Rattle.ix_selector.specs.Pattern.{Pattern, everything}
use Rattle.ix_walk.specs.JobMeaning.{JobMeaning}
use Rattle.ix_store.specs.Store.{Blocks}
use Rattle.ix_store.specs.Sound.{sound_copies, later_count}
use Rattle.ix_walk.specs.Visits.{is_over_limit}
use Rattle.ix_walk.specs.Once.{first_ones}
use Rattle.ix_check.specs.Verdict.{passes}
use Rattle.ix_verdict.specs.Verdict.{is_missing, is_sound}
use Rattle.ix_car.specs.declared.archive.Skip.{Skip}
use Rattle.ix_car.specs.declared.sink.Delivery.{Delivery}
use Rattle.ix_car.specs.Verified.{judged_visits}
use Rattle.ix_sections.specs.declared.fault.CarFault.{CarFault}
use Rattle.ix_sections.specs.Copies.{copies_of}
use Rattle.ix_sections.specs.Gives.{IsFaultOf}
use Rattle.ix_sections.specs.Sections.{SectionMeaning, section_list, roots_of, with_sections}
use Rattle.ix_verify.specs.Judged.{section_verdict}
use Rattle.ix_verify.specs.Roots.{few_roots}
use Rattle.ix_verify.specs.Outcome.{worse, outcome_at_limit, section_finding, link_finding}
use Rattle.ix_verify.specs.Noting.{IsNoted}
use Rattle.ix_verify.specs.declared.noted.Noted.{Noted}
use Rattle.ix_verify.specs.declared.found.Scope.{Scope}
use Rattle.ix_verify.specs.declared.found.Scope.TheVariants.{Sections as OfSections, Graph as OfGraph}
use Rattle.ix_sections.specs.declared.files.loader.Copies.{Copies}
use Rattle.ix_sections.specs.declared.files.loader.Copies.TheVariants.{First, Sound}
use Rattle.ix_verify.specs.declared.found.Outcome.{Outcome}
use Rattle.ix_verify.specs.declared.found.Outcome.TheVariants.{Sound as SoundFile}
use Rattle.ix_verdict.specs.declared.allow_missing.AllowMissing.{AllowMissing}
use Rattle.ix_verdict.specs.AllowMissing.{allow_none, may_lack}
use Rattle.ix_verify.specs.declared.found.Unsound.{Unsound}
use Rattle.ix_verify.specs.declared.found.Findings.{Findings}

-- the report on a section: its place, its CID and the verdict on its own block
abbrev pub told_of : SectionMeaning → Unsound
told_of s = record { place = s.place; cid = s.cid; verdict = section_verdict s.cid s.block }

-- the sections that aren't sound
abbrev pub unsound_of : List SectionMeaning → List Unsound
unsound_of sections = filter (λ u. not (is_sound u.verdict)) (map told_of sections)

-- the job of what a selector enters below roots, each CID gone into once
abbrev pub job_below : Pattern → List ℕ → ℕ → List (List ℕ) → JobMeaning
job_below selector name limit roots = record { name = name; roots = roots; selector = selector; limit = limit; once = true }

-- the same as it is verified, with the greatest limit
abbrev pub verified_job : Pattern → List (List ℕ) → JobMeaning
verified_job selector roots = job_below selector (codes "verify") 4294967295 roots

-- the job of everything below roots, however many
abbrev pub roots_job : List (List ℕ) → JobMeaning
roots_job roots = verified_job everything (few_roots roots)

-- the report on a visit whose verdict isn't good
abbrev pub skip_of : Delivery → Skip
skip_of d = record { seq = d.visit.seq; cid = d.visit.cid; verdict = d.verdict }

-- a visit leads to a block that isn't there, and that may be lacking by this test of CIDs
abbrev pub is_absent : (List ℕ → Bool) → Delivery → Bool
is_absent lack d = is_missing d.verdict && lack d.visit.cid

-- the reports on the visits of a job whose verdict isn't good, except for what may be lacking
abbrev pub skips_below : (List ℕ → Bool) → Blocks → JobMeaning → List Skip
skips_below lack store job = map skip_of (filter (λ d. not (passes d.verdict || is_absent lack d)) (judged_visits store 0 job))

-- how many visits lead to blocks that aren't there and may be lacking
abbrev pub absent_below : (List ℕ → Bool) → Blocks → JobMeaning → ℕ
absent_below lack store job = length (filter (is_absent lack) (judged_visits store 0 job))

-- the roots from which a walk goes: each of a file's, where it is named first
abbrev pub roots_to_walk : Scope → List (List ℕ) → List (List ℕ)
roots_to_walk OfSections roots = []
roots_to_walk OfGraph roots = first_ones roots

-- what a walk of a job comes to: what is skipped, how much is absent, and whether it ends at its limit
pub record IsWalkOf (lack : List ℕ → Bool) (store : Blocks) (job : JobMeaning) (most : ℕ) (skips : Noted Skip) (absent : ℕ) (over : Bool) : Type 0 where
  pub skipped : IsNoted link_finding most (skips_below lack store job) skips
  pub lacking : absent ≡ absent_below lack store job
  pub unfinished : over ≡ is_over_limit store job

-- what the one walk from these roots comes to
abbrev pub IsReached : AllowMissing → Blocks → List (List ℕ) → ℕ → Noted Skip → ℕ → Bool → Type 0
IsReached allowed store roots most skips absent over = IsWalkOf (may_lack allowed roots) store (roots_job roots) most skips absent over

-- a store with the blocks of the sections of files, put end to end, the first of each CID
abbrev pub with_files : Blocks → List (List SectionMeaning) → Blocks
with_files store [] = store
with_files store (sections ∷ files) = with_files (with_sections store sections) files

-- the copies of blocks in the sections of files, put end to end
abbrev pub copies_in : List (List SectionMeaning) → Blocks
copies_in files = copies_of (flat_map (λ sections. sections) files)

-- the store of files, by which copy of a block counts: the first, or the first that is sound, and the first if none is
abbrev pub store_of : Copies → List (List SectionMeaning) → Blocks
store_of First files = with_files [] files
store_of Sound files = sound_copies (copies_in files)

-- how many blocks of that store are a later copy
abbrev pub later_of : Copies → List (List SectionMeaning) → ℕ
later_of First files = 0
later_of Sound files = later_count (copies_in files)

-- what is found of a file beside others, of which these are the sections: of each of its own sections by its own bytes, and
-- below its roots in the store of its sections and then of theirs
pub record IsFoundBeside (copies : Copies) (allowed : AllowMissing) (others : List (List SectionMeaning)) (b : List ℕ) (scope : Scope) (most : ℕ) (f : Findings) : Type 0 where
  pub sections : List SectionMeaning
  pub read : section_list b ≡ Ok sections
  pub count : f.sections ≡ length sections
  pub unsound : IsNoted section_finding most (unsound_of sections) f.unsound
  pub reached : IsReached allowed (store_of copies (sections ∷ others)) (roots_to_walk scope (roots_of b)) most f.skips f.absent f.is_over_limit
  pub later : f.later_count ≡ later_of copies (sections ∷ others)

-- what is found of a file for a job over a store: of each section of the file by its own bytes, and on the walk of the job; later
-- copies are not counted
pub record IsFoundFor (allowed : AllowMissing) (store : Blocks) (job : JobMeaning) (b : List ℕ) (most : ℕ) (f : Findings) : Type 0 where
  pub sections : List SectionMeaning
  pub read : section_list b ≡ Ok sections
  pub count : f.sections ≡ length sections
  pub unsound : IsNoted section_finding most (unsound_of sections) f.unsound
  pub reached : IsWalkOf (may_lack allowed (first_ones job.roots)) store job most f.skips f.absent f.is_over_limit
  pub later : f.later_count ≡ 0

-- what is found of a file beside no other, where the first copy of a block counts, and each link to a missing block
abbrev pub IsFoundOf : List ℕ → Scope → ℕ → Findings → Type 0
IsFoundOf b scope most f = IsFoundBeside First allow_none [] b scope most f

-- an error is that of a file: the first in its header and sections
abbrev pub IsFileFault : List ℕ → CarFault → Type 0
IsFileFault b e = IsFaultOf b e (section_list b)

-- no section is unsound, nothing is skipped, and no walk ends at its limit
abbrev pub is_whole : Findings → Bool
is_whole f = (f.unsound.count == 0) && ((f.skips.count == 0) && not f.is_over_limit)

-- the outcome of a file: the worst that its findings make of it
abbrev pub outcome_of : Findings → Outcome
outcome_of f = worse f.unsound.worst (worse f.skips.worst (outcome_at_limit f.is_over_limit))

-- a file is sound: nothing is found of it, and so its outcome is the best
abbrev pub IsCalledSound : Findings → Type 0
IsCalledSound f = (is_whole f ≡ true) × (outcome_of f ≡ SoundFile)

-- whatever is found of a file of which the sections alone are verified, it is sound
abbrev pub HasSoundSections : List ℕ → Type 0
HasSoundSections file = (most : ℕ) (found : Findings) → IsFoundOf file OfSections most found → IsCalledSound found

-- whatever is found of a file, with what its roots call for, it is sound
abbrev pub IsSoundFile : List ℕ → Type 0
IsSoundFile file = (most : ℕ) (found : Findings) → IsFoundOf file OfGraph most found → IsCalledSound found

-- whatever is found of a file for a job over the store of the file's sections, it is sound
abbrev pub IsSoundFileFor : JobMeaning → List ℕ → Type 0
IsSoundFileFor job file =
    (sections : List SectionMeaning) (most : ℕ) (found : Findings) → section_list file ≡ Ok sections
    → IsFoundFor allow_none (store_of First (sections ∷ [])) job file most found → IsCalledSound found
