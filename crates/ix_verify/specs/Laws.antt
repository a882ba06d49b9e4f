-- The laws of what is verified.
use Rattle.std.specs.Prelude.{◌≡◌, ℕ, ◌≤◌, false, List, [], ◌∷◌, ◌++◌, length, flat_map, if◌then◌else◌, Option, Some, Ok, All}
use Rattle.ix_cid.specs.Cid.{parts_of, digest_of, hash_function_of}
use Rattle.ix_cid.specs.declared.hash_function.HashFunction.{HashFunction}
use Rattle.ix_cid.specs.declared.hash_function.HashFunction.TheVariants.{Identity}
use Rattle.ix_selector.specs.Pattern.{Pattern, everything}
use Rattle.ix_walk.specs.JobMeaning.{JobMeaning}
use Rattle.ix_store.specs.Store.{Blocks, block_of}
use Rattle.ix_store.specs.Sound.{AreSoundCopies}
use Rattle.ix_store.specs.declared.places.PlaceSet.{PlaceSet}
use Rattle.ix_walk.specs.Visits.{is_over_limit}
use Rattle.ix_walk.specs.Once.{first_ones}
use Rattle.ix_check.specs.Verdict.{verdict_with, verdict_of}
use Rattle.ix_verdict.specs.declared.verdict.Verdict.TheVariants.{Codec, Sound}
use Rattle.ix_verdict.specs.Verdict.{digest_by, has_codec}
use Rattle.ix_car.specs.declared.sink.Delivery.{Delivery}
use Rattle.ix_car.specs.declared.sink.End.TheVariants.{Done}
use Rattle.ix_car.specs.Archive.{Known, known_at, sections_of, archive_with, difference_of, archive_of, known_by}
use Rattle.ix_car.specs.ArchiveMeaning.{ArchiveMeaning, HasArchived, calls_of}
use Rattle.ix_car.specs.Faithful.{IsFaithful}
use Rattle.ix_known.specs.Known.{IsKnownIn}
use Rattle.ix_car.specs.Report.{skips_of}
use Rattle.ix_car.specs.Restoring.{difference_pairs, AgreesWith, IsWithoutSkips, SkipsOnlyUnknown}
use Rattle.ix_car.specs.Verified.{verified, judged_visits}
use Rattle.ix_sections.specs.Writing.{header_of}
use Rattle.ix_sections.specs.Sections.{SectionMeaning, section_list, roots_of, with_sections}
use Rattle.ix_verify.specs.Judged.{section_verdict, IsSoundSection}
use Rattle.ix_sections.specs.declared.files.loader.Copies.TheVariants.{First, Sound as FirstSound}
use Rattle.ix_verify.specs.Found.{with_files, copies_in, store_of, later_of, job_below, verified_job, HasSoundSections, IsSoundFile, IsSoundFileFor}
use Rattle.ix_verify.specs.Restored.{HasReadableDifference, AreReadAs, IsRestoredByFiles, IsRestoredByFilesBesideSkips}
use Rattle.ix_verify.specs.Written.{sections_with, written_sections, IsArchivable, IsJudged, IsSoundByItself}

-- where the verdict on a CID is Sound, that on the CID and the store's block is
abbrev pub SoundBlocksAreSoundSections : Type 0
SoundBlocksAreSoundSections =
    (store : Blocks) (c block : List ℕ) → verdict_of store c ≡ Sound → block_of store c ≡ Some block → section_verdict c block ≡ Sound

-- outside identity CIDs, the verdict on a CID with a block is that on the section of both, or Codec
abbrev pub SectionVerdictsAreVerdicts : Type 0
SectionVerdictsAreVerdicts =
    (c block : List ℕ) → ¬ (hash_function_of (parts_of c) ≡ Some Identity)
    → verdict_with c (Some block) ≡ (if has_codec c then section_verdict c block else Codec)

-- whatever the codec, the block of a section that is sound has the digest of its CID, by the hash function that this names
abbrev pub SoundSectionsHaveTheirDigest : Type 0
SoundSectionsHaveTheirDigest =
    (c block : List ℕ) → section_verdict c block ≡ Sound
    → (function : HashFunction) × (hash_function_of (parts_of c) ≡ Some function) × (digest_by function block ≡ digest_of c)

-- every section of which the archive of a job is made is sound
abbrev pub ArchivesHaveSoundSections : Type 0
ArchivesHaveSoundSections =
    (store : Blocks) (number : ℕ) (job : JobMeaning) → All (IsSoundSection store) (sections_of store (verified store number job))

-- the header of an archive names the roots
abbrev pub RootsAreReadBack : Type 0
RootsAreReadBack =
    (store : Blocks) (roots : List (List ℕ)) (ds : List Delivery) → IsArchivable store roots ds → roots_of (archive_with store roots ds) ≡ roots

-- the sections of an archive are those that were written
abbrev pub SectionsAreReadBack : Type 0
SectionsAreReadBack =
    (store : Blocks) (roots : List (List ℕ)) (ds : List Delivery) → IsArchivable store roots ds
    → section_list (archive_with store roots ds) ≡ Ok (written_sections store roots ds)

-- what was written with the store's verdicts is sound by its own bytes
abbrev pub WrittenIsSoundByItself : Type 0
WrittenIsSoundByItself =
    (store : Blocks) (roots : List (List ℕ)) (ds : List Delivery) → All (IsJudged store) ds
    → All IsSoundByItself (written_sections store roots ds)

-- the verdicts of a job's deliveries are the store's
abbrev pub VerifiedIsJudged : Type 0
VerifiedIsJudged = (store : Blocks) (number : ℕ) (job : JobMeaning) → All (IsJudged store) (verified store number job)

-- the sections of an archive of deliveries with the store's verdicts are found to be sound
abbrev pub DeliveriesHaveSoundSections : Type 0
DeliveriesHaveSoundSections =
    (store : Blocks) (roots : List (List ℕ)) (ds : List Delivery) → IsArchivable store roots ds → All (IsJudged store) ds
    → HasSoundSections (archive_with store roots ds)

-- those of the archive of a job
abbrev pub JobsHaveSoundSections : Type 0
JobsHaveSoundSections =
    (store : Blocks) (number : ℕ) (job : JobMeaning) → IsArchivable store job.roots (verified store number job)
    → HasSoundSections (archive_of store number job)

-- where a job took everything below its roots, none of which is named twice, going into each CID once, within its limit and
-- without a skip, the whole of its archive is, with all that its roots call for
abbrev pub WholeArchivesAreSound : Type 0
WholeArchivesAreSound =
    (store : Blocks) (number : ℕ) (name : List ℕ) (limit : ℕ) (roots : List (List ℕ))
    → IsArchivable store roots (verified store number (job_below everything name limit roots))
    → first_ones roots ≡ roots → length roots ≤ 64
    → limit ≤ 4294967295 → is_over_limit store (job_below everything name limit roots) ≡ false
    → skips_of (judged_visits store number (job_below everything name limit roots)) ≡ []
    → IsSoundFile (archive_of store number (job_below everything name limit roots))

-- where a job took what a selector enters below its roots, going into each CID once, within its limit and without a skip, its
-- archive is sound for these roots and this selector
abbrev pub SelectedArchivesAreSound : Type 0
SelectedArchivesAreSound =
    (store : Blocks) (number : ℕ) (selector : Pattern) (name : List ℕ) (limit : ℕ) (roots : List (List ℕ))
    → IsArchivable store roots (verified store number (job_below selector name limit roots))
    → limit ≤ 4294967295 → is_over_limit store (job_below selector name limit roots) ≡ false
    → skips_of (judged_visits store number (job_below selector name limit roots)) ≡ []
    → IsSoundFileFor (verified_job selector roots) (archive_of store number (job_below selector name limit roots))

-- the store of files is that of their sections put end to end
abbrev pub FilesAreEndToEnd : Type 0
FilesAreEndToEnd =
    (store : Blocks) (files : List (List SectionMeaning)) → with_files store files ≡ with_sections store (flat_map (λ sections. sections) files)

-- over files whose sections are all sound, the store is the same whichever copy counts, and no block is a later copy
abbrev pub SoundCopiesAreTheFirst : Type 0
SoundCopiesAreTheFirst =
    (files : List (List SectionMeaning)) → AreSoundCopies (copies_in files)
    → (store_of FirstSound files ≡ store_of First files) × (later_of FirstSound files ≡ 0)

-- the header of a difference names the job's roots, and its sections are those of its pairs, each at its offset
abbrev pub DifferenceIsReadBack : Type 0
DifferenceIsReadBack =
    (known : Known) (store : Blocks) (number : ℕ) (job : JobMeaning) → HasReadableDifference known store number job
    → (roots_of (difference_of known store number job) ≡ job.roots)
    × (section_list (difference_of known store number job) ≡ Ok (sections_with (length (header_of job.roots)) (difference_pairs known store number job)))

-- a job that skips nothing is restored by the file of its difference from a base, followed by the base's files
abbrev pub DifferenceThenFilesRestore : Type 0
DifferenceThenFilesRestore =
    (store base : Blocks) (files : List (List ℕ)) (number : ℕ) (job : JobMeaning) → AreReadAs files base
    → HasReadableDifference (known_by base) store number job → AgreesWith base store → IsWithoutSkips store number job
    → IsRestoredByFiles store number job (difference_of (known_by base) store number job ∷ files)

-- and by the base's files followed by the difference, if the blocks of the base are all sound
abbrev pub FilesThenDifferenceRestore : Type 0
FilesThenDifferenceRestore =
    (store base : Blocks) (files : List (List ℕ)) (number : ℕ) (job : JobMeaning) → AreReadAs files base → AreSoundCopies base
    → HasReadableDifference (known_by base) store number job → AgreesWith base store → IsWithoutSkips store number job
    → IsRestoredByFiles store number job (files ++ difference_of (known_by base) store number job ∷ [])

-- the same of a job that skips only what the base doesn't know, beside its skips
abbrev pub DifferenceThenFilesRestoreBesideSkips : Type 0
DifferenceThenFilesRestoreBesideSkips =
    (store base : Blocks) (files : List (List ℕ)) (number : ℕ) (job : JobMeaning) → AreReadAs files base
    → HasReadableDifference (known_by base) store number job → AgreesWith base store → SkipsOnlyUnknown base store number job
    → IsRestoredByFilesBesideSkips store number job (difference_of (known_by base) store number job ∷ files)

-- with the base's files first too
abbrev pub FilesThenDifferenceRestoreBesideSkips : Type 0
FilesThenDifferenceRestoreBesideSkips =
    (store base : Blocks) (files : List (List ℕ)) (number : ℕ) (job : JobMeaning) → AreReadAs files base → AreSoundCopies base
    → HasReadableDifference (known_by base) store number job → AgreesWith base store → SkipsOnlyUnknown base store number job
    → IsRestoredByFilesBesideSkips store number job (files ++ difference_of (known_by base) store number job ∷ [])

-- what an archive that leaves out the blocks of a base, by their positions, has written at Done is the job's difference from it
abbrev pub WritesTheDifference : {W : Type 0} → (W → Option (List ℕ)) → Type 0
WritesTheDifference {W} told =
    (a : ArchiveMeaning W) (store base : Blocks) (places : PlaceSet) (number : ℕ) (job : JobMeaning) → IsKnownIn store base places
    → HasArchived told a (known_at store (Some places)) store job (Some []) → IsFaithful store number job Done (calls_of a)
    → told a.writer ≡ Some (difference_of (known_by base) store number job)

-- so what it has written restores the job, as a file that is followed by the base's files, if the job skips nothing
abbrev pub WrittenThenFilesRestore : {W : Type 0} → (W → Option (List ℕ)) → Type 0
WrittenThenFilesRestore {W} told =
    (a : ArchiveMeaning W) (store base : Blocks) (files : List (List ℕ)) (places : PlaceSet) (number : ℕ) (job : JobMeaning) → IsKnownIn store base places
    → HasArchived told a (known_at store (Some places)) store job (Some []) → IsFaithful store number job Done (calls_of a)
    → AreReadAs files base → HasReadableDifference (known_by base) store number job → AgreesWith base store → IsWithoutSkips store number job
    → (written : List ℕ) × (told a.writer ≡ Some written) × IsRestoredByFiles store number job (written ∷ files)

-- the same of a job that skips only what the base doesn't know, beside its skips
abbrev pub WrittenThenFilesRestoreBesideSkips : {W : Type 0} → (W → Option (List ℕ)) → Type 0
WrittenThenFilesRestoreBesideSkips {W} told =
    (a : ArchiveMeaning W) (store base : Blocks) (files : List (List ℕ)) (places : PlaceSet) (number : ℕ) (job : JobMeaning) → IsKnownIn store base places
    → HasArchived told a (known_at store (Some places)) store job (Some []) → IsFaithful store number job Done (calls_of a)
    → AreReadAs files base → HasReadableDifference (known_by base) store number job → AgreesWith base store → SkipsOnlyUnknown base store number job
    → (written : List ℕ) × (told a.writer ≡ Some written) × IsRestoredByFilesBesideSkips store number job (written ∷ files)
