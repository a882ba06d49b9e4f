-- The laws of cutting and of archives.
use Rattle.std.specs.Prelude.{◌≡◌, ◌↔◌, ℕ, true, false, List, [], ◌∷◌, ◌++◌, take, map, filter, flat_map, not, Option, Some, if◌then◌else◌}
use Rattle.std.specs.List.{Contains}
use Rattle.ix_selector.specs.IsEntered.{is_entered}
use Rattle.ix_selector.specs.Pattern.{IsSelector}
use Rattle.ix_store.specs.Store.{Blocks, value_of}
use Rattle.ix_store.specs.Sound.{AreSoundCopies, first_copies}
use Rattle.ix_store.specs.declared.places.PlaceSet.{PlaceSet}
use Rattle.ix_walk.specs.JobMeaning.{JobMeaning, going_in}
use Rattle.ix_walk.specs.Arrivals.{Arrival, arrivals_from}
use Rattle.ix_walk.specs.Visits.{is_over_limit, visits_from}
use Rattle.ix_walk.specs.Once.{EndsBefore, cids_of, sound_value}
use Rattle.ix_check.specs.Verdict.{passes, verdict_of}
use Rattle.ix_car.specs.declared.sink.Delivery.{Delivery}
use Rattle.ix_car.specs.declared.sink.End.{End}
use Rattle.ix_car.specs.declared.sink.End.TheVariants.{Done}
use Rattle.ix_car.specs.Events.{Calls}
use Rattle.ix_car.specs.Kept.{kept, without_deeper_than}
use Rattle.ix_sections.specs.Writing.{header_of, section_with}
use Rattle.ix_car.specs.Verified.{only_passing, is_good, judged, verified, judged_visits}
use Rattle.ix_car.specs.Faithful.{IsFaithful}
use Rattle.ix_car.specs.Archive.{Known, is_known, known_at, first_sound, section_of, sections_of, archive_without, archive_with, difference_of, archive_of, known_by}
use Rattle.ix_verdict.specs.Verdict.{is_sound}
use Rattle.ix_known.specs.Known.{IsKnownIn}
use Rattle.ix_car.specs.Report.{counts_of}
use Rattle.ix_car.specs.Restoring.{difference_pairs, AgreesWith, IsWithoutSkips, IsRestoredBy, SkipsOnlyUnknown, IsRestoredBesideSkips}
use Rattle.ix_car.specs.ArchiveMeaning.{ArchiveMeaning, HasArchived, calls_of}
use Rattle.ix_car.specs.Archived.{IsArchived, IsBeginning, TellsBeginning}

-- what is kept of the visits of a job within its limit is the verified traversal
abbrev pub KeptIsVerified : Type 0
KeptIsVerified =
    (store : Blocks) (number : ℕ) (job : JobMeaning) → is_over_limit store job ≡ false
    → kept (judged_visits store number job) ≡ verified store number job

-- what is kept of the visits of any job begins it
abbrev pub KeptBeginsVerified : Type 0
KeptBeginsVerified =
    (store : Blocks) (number : ℕ) (job : JobMeaning)
    → (more : List Delivery) × (kept (judged_visits store number job) ++ more ≡ verified store number job)

-- the first delivery is kept, and after it what is kept of the rest, or of the rest without its longest prefix of deeper ones
abbrev pub FirstIsKept : Type 0
FirstIsKept =
    (d : Delivery) (ds : List Delivery) → kept (d ∷ ds) ≡ d ∷ (if passes d.verdict then kept ds else kept (without_deeper_than d ds))

-- the same job, which expands a CID once
abbrev pub once : JobMeaning → JobMeaning
once = going_in true

-- and which expands it at every link
abbrev pub every_time : JobMeaning → JobMeaning
every_time = going_in false

-- the traversal of a job that expands sound blocks only, at every link, ends before so many links are followed
abbrev pub EndsVerified : Blocks → JobMeaning → ℕ → Type 0
EndsVerified store job links = EndsBefore (is_entered job.selector) (sound_value store) links job.roots

-- its visits if at most so many links are followed on a path
abbrev pub sound_arrivals : Blocks → JobMeaning → ℕ → List Arrival
sound_arrivals store job links = arrivals_from (is_entered job.selector) (sound_value store) links 0 job.roots

-- the CIDs of the sections in the archive of a job
abbrev pub section_cids : Blocks → ℕ → JobMeaning → List (List ℕ)
section_cids store number job = map (λ d. d.visit.cid) (sections_of store (judged_visits store number job))

-- what it expands are the CIDs with a good verdict
abbrev pub GoodIsSound : Type 0
GoodIsSound = (store : Blocks) (c : List ℕ) → only_passing (is_good store) (value_of store) c ≡ sound_value store c

-- nothing of its visits is cut
abbrev pub OnceIsUncut : Type 0
OnceIsUncut =
    (store : Blocks) (number : ℕ) (job : JobMeaning) (m : ℕ)
    → kept (take m (judged_visits store number (once job))) ≡ take m (judged_visits store number (once job))

-- a job within its limit at every link is within it with link-visit-once
abbrev pub OnceIsWithin : Type 0
OnceIsWithin =
    (store : Blocks) (job : JobMeaning) → is_over_limit store (every_time job) ≡ false → is_over_limit store (once job) ≡ false

-- it then has the same archive
abbrev pub OnceArchivesTheSame : Type 0
OnceArchivesTheSame =
    (store : Blocks) (number : ℕ) (job : JobMeaning) → IsSelector job.selector → is_over_limit store (every_time job) ≡ false
    → archive_of store number (once job) ≡ archive_of store number (every_time job)

-- so it has if it is within its limit with link-visit-once, and the verified traversal ends
abbrev pub OnceArchivesTheEnded : Type 0
OnceArchivesTheEnded =
    (store : Blocks) (number : ℕ) (job : JobMeaning) (links : ℕ) → IsSelector job.selector
    → EndsVerified store job links → is_over_limit store (once job) ≡ false
    → archive_of store number (once job) ≡ archive_of store number (every_time job)

-- whatever its limit, its first visits write a beginning of the archive of the verified traversal that ends
abbrev pub OnceBeginsTheEnded : Type 0
OnceBeginsTheEnded =
    (store : Blocks) (number : ℕ) (job : JobMeaning) (links : ℕ) → IsSelector job.selector → EndsVerified store job links
    → (m : ℕ) → IsBeginning (archive_with store job.roots (take m (judged_visits store number (once job))))
    (archive_with store job.roots (map (judged store) (visits_from store number 0 (sound_arrivals store job links))))

-- its sections are those of the sound blocks that can be reached, however many links are followed
abbrev pub OnceArchivesTheReached : Type 0
OnceArchivesTheReached =
    (store : Blocks) (number : ℕ) (job : JobMeaning) → IsSelector job.selector → is_over_limit store (once job) ≡ false
    → (c : List ℕ) → (Contains (section_cids store number (once job)) c
    ↔ ((is_sound (verdict_of store c) ≡ true) × ((links : ℕ) × Contains (cids_of (sound_arrivals store job links)) c)))

-- the archive of a sink that was faithful to its job is that of the job if it was done, and else begins it
abbrev pub FaithfulIsArchived : Type 0
FaithfulIsArchived =
    (store : Blocks) (number : ℕ) (job : JobMeaning) (end : End) (calls : Calls)
    → IsFaithful store number job end calls → IsArchived store number job end calls

-- the writer of an archive whose guarantee held, and that was faithful to its job, has the archive of the job at Done, without the
-- sections of known CIDs
abbrev pub HasWholeArchive : {W : Type 0} → (W → Option (List ℕ)) → Type 0
HasWholeArchive {W} told =
    (a : ArchiveMeaning W) (known : Known) (store : Blocks) (number : ℕ) (job : JobMeaning) → HasArchived told a known store job (Some [])
    → IsFaithful store number job Done (calls_of a) → told a.writer ≡ Some (difference_of known store number job)

-- it has a beginning of that whatever the end
abbrev pub HasBegunArchive : {W : Type 0} → (W → Option (List ℕ)) → Type 0
HasBegunArchive {W} told =
    (a : ArchiveMeaning W) (known : Known) (store : Blocks) (number : ℕ) (job : JobMeaning) (end : End) → HasArchived told a known store job (Some [])
    → IsFaithful store number job end (calls_of a) → TellsBeginning (told a.writer) (difference_of known store number job)

-- the sections without those of known CIDs are the others, in their order
abbrev pub DifferenceIsTheRest : Type 0
DifferenceIsTheRest =
    (known : Known) (store : Blocks) (roots : List (List ℕ)) (ds : List Delivery)
    → archive_without known store roots ds ≡ header_of roots ++ flat_map (section_of store) (filter (λ d. not (is_known known d.visit.cid)) (first_sound ds))

-- positions that are those of a base's sound blocks leave out, and count, what the base knows
abbrev pub PlacesAreOfTheBase : Type 0
PlacesAreOfTheBase =
    (store base : Blocks) (places : PlaceSet) → IsKnownIn store base places → (roots : List (List ℕ)) (ds : List Delivery)
    → (archive_without (known_at store (Some places)) store roots ds ≡ archive_without (known_by base) store roots ds)
    × ((taken : ℕ) → counts_of (known_at store (Some places)) store ds taken ≡ counts_of (known_by base) store ds taken)

-- an archive without the sections of known CIDs has the sections of these pairs
abbrev pub DifferenceIsOfPairs : Type 0
DifferenceIsOfPairs =
    (known : Known) (store : Blocks) (number : ℕ) (job : JobMeaning)
    → difference_of known store number job ≡ header_of job.roots ++ flat_map (λ p. section_with p.0 (Some p.1)) (difference_pairs known store number job)

-- a job that skips nothing is restored by its difference from any base, followed by the base
abbrev pub DifferenceThenBaseRestores : Type 0
DifferenceThenBaseRestores =
    (store base : Blocks) (number : ℕ) (job : JobMeaning) → AgreesWith base store → IsWithoutSkips store number job
    → IsRestoredBy store number job (first_copies (difference_pairs (known_by base) store number job ++ base))

-- and by the base followed by the difference, if the first copies in the base are all sound
abbrev pub BaseThenDifferenceRestores : Type 0
BaseThenDifferenceRestores =
    (store base : Blocks) (number : ℕ) (job : JobMeaning) → AreSoundCopies (first_copies base) → AgreesWith base store → IsWithoutSkips store number job
    → IsRestoredBy store number job (first_copies (base ++ difference_pairs (known_by base) store number job))

-- a job that skips only what the base doesn't know is restored by its difference followed by the base, beside its skips
abbrev pub DifferenceThenBaseRestoresBesideSkips : Type 0
DifferenceThenBaseRestoresBesideSkips =
    (store base : Blocks) (number : ℕ) (job : JobMeaning) → AgreesWith base store → SkipsOnlyUnknown base store number job
    → IsRestoredBesideSkips store number job (first_copies (difference_pairs (known_by base) store number job ++ base))

-- and by the base followed by the difference, if the first copies in the base are all sound
abbrev pub BaseThenDifferenceRestoresBesideSkips : Type 0
BaseThenDifferenceRestoresBesideSkips =
    (store base : Blocks) (number : ℕ) (job : JobMeaning) → AreSoundCopies (first_copies base) → AgreesWith base store → SkipsOnlyUnknown base store number job
    → IsRestoredBesideSkips store number job (first_copies (base ++ difference_pairs (known_by base) store number job))
