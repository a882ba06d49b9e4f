-- The file of a difference is read back, and restores its job with the files of the base.
use Rattle.std.proofs.Common.{◌≡◌, ℕ, ◌<◌, ◌^◌, Bool, true, false, List, [], ◌∷◌, ◌++◌, length, flat_map, refl, sym, ◌∙◌, ap, subst}
use Rattle.std.specs.Prelude.{Option, Some, Result, Ok, Err, All, if◌then◌else◌, bytes_eq}
use Rattle.ix_cid.proofs.Results.{ok_same}
use Rattle.ix_store.specs.Store.{Blocks, with_block, with_blocks, block_of}
use Rattle.ix_store.specs.Sound.{AreSoundCopies, first_copies}
use Rattle.ix_store.specs.declared.places.PlaceSet.{PlaceSet}
use Rattle.ix_walk.specs.JobMeaning.{JobMeaning}
use Rattle.ix_check.specs.Verdict.{verdict_with}
use Rattle.ix_sections.specs.Copies.{copies_of}
use Rattle.ix_sections.specs.Writing.{header_of}
use Rattle.ix_sections.specs.Reading.{Fault, ◌>>=◌, blocks_after}
use Rattle.ix_sections.specs.Sections.{SectionMeaning, section_list, roots_of, with_sections, with_first_of_each}
use Rattle.ix_sections.proofs.SectionLists.{blocks-after_sections}
use Rattle.ix_car.specs.declared.sink.End.TheVariants.{Done}
use Rattle.ix_car.specs.Archive.{Known, known_at, new_sections, difference_of, known_by}
use Rattle.ix_verdict.specs.Verdict.{is_sound}
use Rattle.ix_car.specs.ArchiveMeaning.{ArchiveMeaning, HasArchived, calls_of}
use Rattle.ix_car.specs.Faithful.{IsFaithful}
use Rattle.ix_known.specs.Known.{knows, IsKnownIn}
use Rattle.ix_car.specs.Restoring.{difference_pairs, AgreesWith, IsWithoutSkips, IsRestoredBy, skipped_cids, SkipsOnlyUnknown, IsRestoredBesideSkips}
use Rattle.ix_car.specs.Verified.{verified}
use Rattle.ix_car.proofs.Archives.{archive-whole}
use Rattle.ix_car.proofs.KnownBlocks.{places-of-base}
use Rattle.ix_car.proofs.Restored.{pairs-bytes, difference-first, base-first}
use Rattle.ix_car.proofs.RestoredBesideSkips as beside_skips
use Rattle.ix_verify.specs.Restored.{HasReadableDifference, blocks_after_all, AreReadAs, IsRestoredByFiles, IsRestoredByFilesBesideSkips}
use Rattle.ix_verify.specs.Written.{sections_with}
use Rattle.ix_verify.proofs.PairsAgain.{text_of, HasCid, pairs-cids, pairs-copies, file-roots, file-sections}
use Rattle.ix_verify.proofs.WholeAgain.{first_of, first_of-none, first_of-twice, block_if, block-with}

-- ---- the file of a difference

module _ (known : Known) (store : Blocks) (number : ℕ) (job : JobMeaning) (readable : HasReadableDifference known store number job) where
  -- its pairs are of CIDs
  difference-cids : All HasCid (difference_pairs known store number job)
  difference-cids = pairs-cids store (new_sections known store (verified store number job)) readable.stored

  -- it has fewer than 2 ^ 63 bytes
  difference-short : length (header_of job.roots ++ flat_map text_of (difference_pairs known store number job)) < 2 ^ 63
  difference-short = subst (λ (b : List ℕ). length b < 2 ^ 63) (pairs-bytes known store number job) readable.size

  -- its sections
  abbrev sections_there : List SectionMeaning
  sections_there = sections_with (length (header_of job.roots)) (difference_pairs known store number job)

  -- the law `DifferenceIsReadBack`
  pub difference-back : (roots_of (difference_of known store number job) ≡ job.roots) × (section_list (difference_of known store number job) ≡ Ok sections_there)
  difference-back = (
    ap roots_of (pairs-bytes known store number job) ∙ file-roots job.roots (flat_map text_of (difference_pairs known store number job)) readable.named difference-short,
    ap section_list (pairs-bytes known store number job) ∙ file-sections job.roots (difference_pairs known store number job) readable.named difference-cids difference-short,
  )

-- ---- the blocks of files

-- the blocks of sections are the first of their copies
sections-first : (store : Blocks) (ss : List SectionMeaning) → with_sections store ss ≡ with_blocks store (copies_of ss)
sections-first store [] = refl
sections-first store (s ∷ ss) = sections-first (with_block store (s.cid, s.block)) ss

-- blocks and then others are all of them
blocks-both : (store ps qs : Blocks) → with_blocks (with_blocks store ps) qs ≡ with_blocks store (ps ++ qs)
blocks-both store [] qs = refl
blocks-both store (p ∷ ps) qs = blocks-both (with_block store p) ps qs

-- what files add to any store, if they are read as one after some store
files-copies : (files : List (List ℕ)) (first last : Blocks) → blocks_after_all first files ≡ Ok last
    → (copies : Blocks) × ((store : Blocks) → blocks_after_all store files ≡ Ok (with_blocks store copies))
files-copies [] first last read = ([], λ store. refl)
files-copies (file ∷ files) first last read =
    on_file (section_list file) (sym (ap (λ r. r >>= (λ more. blocks_after_all more files)) (blocks-after_sections first file)) ∙ read) (λ store. blocks-after_sections store file)
    (λ more h. files-copies files more last h) where
      on_file : (list : Result (List SectionMeaning) Fault) → (with_first_of_each first list >>= (λ more. blocks_after_all more files)) ≡ Ok last
          → ((store : Blocks) → blocks_after store file ≡ with_first_of_each store list)
          → ((more : Blocks) → blocks_after_all more files ≡ Ok last → (copies : Blocks) × ((store : Blocks) → blocks_after_all store files ≡ Ok (with_blocks store copies)))
          → (copies : Blocks) × ((store : Blocks) → (blocks_after store file >>= (λ more. blocks_after_all more files)) ≡ Ok (with_blocks store copies))
      on_file (Err e) h adds others = absurd cc
      on_file (Ok sections) h adds others =
          let rest = others (with_sections first sections) h in (
            copies_of sections ++ rest.0,
            λ store. ap (λ r. r >>= (λ more. blocks_after_all more files)) (adds store)
                ∙ rest.1 (with_sections store sections)
                ∙ ap (λ (b : Blocks). Ok (with_blocks b rest.0)) (sections-first store sections)
                ∙ ap (λ (b : Blocks). Ok b) (blocks-both store (copies_of sections) rest.0),
          )

-- files that are read after others
files-after : (store : Blocks) (files others : List (List ℕ)) → blocks_after_all store (files ++ others) ≡ (blocks_after_all store files >>= (λ more. blocks_after_all more others))
files-after store [] others = refl
files-after store (file ∷ files) others = on_file (blocks_after store file) (λ more. files-after more files others) where
  on_file : (read : Result Blocks Fault) → ((more : Blocks) → blocks_after_all more (files ++ others) ≡ (blocks_after_all more files >>= (λ all. blocks_after_all all others)))
      → (read >>= (λ more. blocks_after_all more (files ++ others))) ≡ ((read >>= (λ more. blocks_after_all more files)) >>= (λ more. blocks_after_all more others))
  on_file (Err e) rest = refl
  on_file (Ok more) rest = rest more

-- of many blocks with one CID the first counts
block-many : (store ps : Blocks) (c : List ℕ) → block_of (with_blocks store ps) c ≡ first_of (block_of store c) (block_of ps c)
block-many store [] c = sym (first_of-none (block_of store c))
block-many store (p ∷ ps) c =
    block-many (with_block store p) ps c
    ∙ ap (λ (o : Option (List ℕ)). first_of o (block_of ps c)) (block-with store p c)
    ∙ first_of-twice (block_of store c) (block_if (bytes_eq p.0 c) p.1) (block_of ps c)
    ∙ ap (λ (o : Option (List ℕ)). first_of (block_of store c) o) (on_same (bytes_eq p.0 c)) where
      on_same : (same : Bool) → first_of (block_if same p.1) (block_of ps c) ≡ (if same then Some p.1 else block_of ps c)
      on_same true = refl
      on_same false = refl

-- ---- the difference and the base

module _ (store base : Blocks) (files : List (List ℕ)) (number : ℕ) (job : JobMeaning) (read : AreReadAs files base) where
  -- the copies in the base's files
  abbrev copies : Blocks
  copies = (files-copies files [] base read).0

  -- they add themselves to any store
  copies-added : (first : Blocks) → blocks_after_all first files ≡ Ok (with_blocks first copies)
  copies-added = (files-copies files [] base read).1

  -- the base has the first of them
  base-copies : base ≡ first_copies copies
  base-copies = ok_same base (first_copies copies) (sym read ∙ copies-added [])

  -- so it has the same blocks
  block-same : (c : List ℕ) → block_of base c ≡ block_of copies c
  block-same c = ap (λ (b : Blocks). block_of b c) base-copies ∙ block-many [] copies c

  knows-same : (c : List ℕ) → knows base c ≡ knows copies c
  knows-same c = ap (λ (o : Option (List ℕ)). is_sound (verdict_with c o)) (block-same c)

  -- and the same is known
  known-same : known_by base ≡ known_by copies
  known-same = λ i. Some (λ c. knows-same c i)

  module _ (readable : HasReadableDifference (known_by base) store number job) (agrees : AgreesWith base store) where
    abbrev pairs : Blocks
    pairs = difference_pairs (known_by base) store number job

    -- the difference adds its pairs to any store
    difference-added : (first : Blocks) → blocks_after first (difference_of (known_by base) store number job) ≡ Ok (with_blocks first pairs)
    difference-added first =
        blocks-after_sections first (difference_of (known_by base) store number job)
        ∙ ap (with_first_of_each first) (difference-back (known_by base) store number job readable).1
        ∙ ap (λ (b : Blocks). Ok b) (sections-first first (sections_with (length (header_of job.roots)) pairs) ∙ ap (with_blocks first) (pairs-copies (length (header_of job.roots)) pairs))

    -- so the difference and the files are read as these copies
    difference-read : AreReadAs (difference_of (known_by base) store number job ∷ files) (first_copies (pairs ++ copies))
    difference-read =
        ap (λ r. r >>= (λ more. blocks_after_all more files)) (difference-added []) ∙ copies-added (with_blocks [] pairs) ∙ ap (λ (b : Blocks). Ok b) (blocks-both [] pairs copies)

    -- and the files and the difference as these
    files-read : AreReadAs (files ++ difference_of (known_by base) store number job ∷ []) (first_copies (copies ++ pairs))
    files-read =
        files-after [] files (difference_of (known_by base) store number job ∷ [])
        ∙ ap (λ r. r >>= (λ more. blocks_after_all more (difference_of (known_by base) store number job ∷ []))) (copies-added [])
        ∙ ap (λ r. r >>= (λ more. blocks_after_all more [])) (difference-added (first_copies copies))
        ∙ ap (λ (b : Blocks). Ok b) (blocks-both [] copies pairs)

    agrees-same : AgreesWith copies store
    agrees-same c known sound = sym (block-same c) ∙ agrees c (knows-same c ∙ known) sound

    module _ (done : IsWithoutSkips store number job) where
      -- the law `DifferenceThenFilesRestore`
      pub difference-then_files : IsRestoredByFiles store number job (difference_of (known_by base) store number job ∷ files)
      difference-then_files = (
        first_copies (pairs ++ copies),
        difference-read,
        subst (λ (k : Known). IsRestoredBy store number job (first_copies (difference_pairs k store number job ++ copies))) (sym known-same) (difference-first store copies number job agrees-same done),
      )

      -- the law `FilesThenDifferenceRestore`
      pub files-then_difference : AreSoundCopies base → IsRestoredByFiles store number job (files ++ difference_of (known_by base) store number job ∷ [])
      files-then_difference sound = (
        first_copies (copies ++ pairs),
        files-read,
        subst (λ (k : Known). IsRestoredBy store number job (first_copies (copies ++ difference_pairs k store number job))) (sym known-same)
            (base-first store copies number job (subst AreSoundCopies base-copies sound) agrees-same done),
      )

    module _ (skips : SkipsOnlyUnknown base store number job) where
      skips-same : SkipsOnlyUnknown copies store number job
      skips-same = record { within = skips.within; unknown = subst (λ (known : List ℕ → Bool). All (λ c. known c ≡ false) (skipped_cids store number job)) (λ i. λ c. knows-same c i) skips.unknown }

      -- the law `DifferenceThenFilesRestoreBesideSkips`
      pub difference-beside_skips : IsRestoredByFilesBesideSkips store number job (difference_of (known_by base) store number job ∷ files)
      difference-beside_skips = (
        first_copies (pairs ++ copies),
        difference-read,
        subst (λ (k : Known). IsRestoredBesideSkips store number job (first_copies (difference_pairs k store number job ++ copies))) (sym known-same)
            (beside_skips.difference-first store copies number job agrees-same skips-same),
      )

      -- the law `FilesThenDifferenceRestoreBesideSkips`
      pub files-beside_skips : AreSoundCopies base → IsRestoredByFilesBesideSkips store number job (files ++ difference_of (known_by base) store number job ∷ [])
      files-beside_skips sound = (
        first_copies (copies ++ pairs),
        files-read,
        subst (λ (k : Known). IsRestoredBesideSkips store number job (first_copies (copies ++ difference_pairs k store number job))) (sym known-same)
            (beside_skips.base-first store copies number job agrees-same skips-same (subst AreSoundCopies base-copies sound)),
      )

-- ---- what was written

module _ {W : Type 0} (told : W → Option (List ℕ)) (a : ArchiveMeaning W) (store base : Blocks) (places : PlaceSet) (number : ℕ) (job : JobMeaning) (of_base : IsKnownIn store base places)
    (guarantee : HasArchived told a (known_at store (Some places)) store job (Some [])) (faithful : IsFaithful store number job Done (calls_of a)) where
  -- the law `WritesTheDifference`
  pub written-difference : told a.writer ≡ Some (difference_of (known_by base) store number job)
  written-difference =
      archive-whole told a (known_at store (Some places)) store number job guarantee faithful
      ∙ ap (λ (b : List ℕ). Some b) (places-of-base store base places of_base job.roots (verified store number job)).0
