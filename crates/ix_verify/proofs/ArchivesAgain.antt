-- An archive is read back as its roots and its sections, each of which is sound.
use Rattle.std.proofs.Common.{◌≡◌, ℕ, ◌+◌, ◌<◌, ◌^◌, false, ◌&&◌, List, [], ◌∷◌, ◌++◌, length, refl, sym, ◌∙◌, ap, subst}
use Rattle.std.specs.Prelude.{Option, Some, None, Result, Ok, All, flat_map, not, ◌==◌, if◌then◌else◌}
use Rattle.std.proofs.lemmas.List.Elements.{All-nil, All-cons, All-head, All-tail}
use Rattle.ix_store.specs.Store.{Blocks, block_of}
use Rattle.ix_verdict.specs.declared.verdict.Verdict.{Verdict}
use Rattle.ix_car.specs.declared.sink.Delivery.{Delivery}
use Rattle.ix_sections.specs.Writing.{header_of}
use Rattle.ix_car.specs.Archive.{first_sound, section_of, archive_with}
use Rattle.ix_verdict.specs.Verdict.{is_sound}
use Rattle.ix_sections.specs.Reading.{Fault}
use Rattle.ix_sections.specs.Sections.{SectionMeaning, placed, section_list, roots_of}
use Rattle.ix_verify.specs.declared.found.Outcome.{Outcome}
use Rattle.ix_verify.specs.declared.found.Findings.{Findings}
use Rattle.ix_verify.specs.declared.found.Unsound.{Unsound}
use Rattle.ix_verify.specs.Judged.{IsSoundSection}
use Rattle.ix_verify.specs.Outcome.{worse, outcome_at_limit, section_finding, link_finding}
use Rattle.ix_verify.specs.Noting.{IsNoted}
use Rattle.ix_verify.specs.Found.{told_of, unsound_of, IsCalledSound, HasSoundSections}
use Rattle.ix_verify.specs.Written.{section_where, sections_from, written_sections, IsArchivable, IsJudged, IsSoundByItself}
use Rattle.ix_verify.proofs.PairsAgain.{text_of, pairs_of, pairs-cids, pairs-texts, pairs-placed, file-roots, file-sections}
use Rattle.ix_verify.proofs.SoundSections.{All-first_sound}

pub archive-roots : (store : Blocks) (roots : List (List ℕ)) (ds : List Delivery) → IsArchivable store roots ds → roots_of (archive_with store roots ds) ≡ roots
archive-roots store roots ds written = file-roots roots (flat_map (section_of store) (first_sound ds)) written.named written.size

pub archive-sections : (store : Blocks) (roots : List (List ℕ)) (ds : List Delivery) → IsArchivable store roots ds → section_list (archive_with store roots ds) ≡ Ok (written_sections store roots ds)
archive-sections store roots ds written =
    let sound = first_sound ds in
    let texts : archive_with store roots ds ≡ header_of roots ++ flat_map text_of (pairs_of store sound) = ap (λ (l : List ℕ). header_of roots ++ l) (pairs-texts store sound) in
    ap section_list texts
    ∙ file-sections roots (pairs_of store sound) written.named (pairs-cids store sound written.stored) (subst (λ (l : List ℕ). length l < 2 ^ 63) texts written.size)
    ∙ ap (λ (l : List SectionMeaning). Ok l) (sym (pairs-placed store sound (length (header_of roots))))

-- sections of sound deliveries are sound
sections-sound : (store : Blocks) (place : ℕ) (ds : List Delivery) → All (IsSoundSection store) ds → All IsSoundByItself (sections_from store place ds)
sections-sound store place [] sound = All-nil IsSoundByItself
sections-sound store place (d ∷ ds) sound =
    on_block (block_of store d.visit.cid) refl (sections-sound store (place + length (section_of store d)) ds (All-tail (IsSoundSection store) d ds sound)) where
      on_block : (o : Option (List ℕ)) → block_of store d.visit.cid ≡ o → All IsSoundByItself (sections_from store (place + length (section_of store d)) ds)
          → All IsSoundByItself (section_where place d.visit.cid o ++ sections_from store (place + length (section_of store d)) ds)
      on_block None there more = more
      on_block (Some block) there more =
          All-cons IsSoundByItself (placed place (d.visit.cid, block)) (sections_from store (place + length (section_of store d)) ds) (All-head (IsSoundSection store) d ds sound block there) more

pub written-sound : (store : Blocks) (roots : List (List ℕ)) (ds : List Delivery) → All (IsJudged store) ds → All IsSoundByItself (written_sections store roots ds)
written-sound store roots ds judged = sections-sound store (length (header_of roots)) (first_sound ds) (All-first_sound store ds judged)

-- where each section is sound none is reported
none-unsound : (ss : List SectionMeaning) → All IsSoundByItself ss → unsound_of ss ≡ []
none-unsound [] sound = refl
none-unsound (s ∷ ss) sound =
    ap (λ (v : Verdict). if not (is_sound v) then told_of s ∷ unsound_of ss else unsound_of ss) (All-head IsSoundByItself s ss sound) ∙ none-unsound ss (All-tail IsSoundByItself s ss sound)

-- two results that are equal have equal sections
pub sections_same : (ss ts : List SectionMeaning) → ◌≡◌ {A = Result (List SectionMeaning) Fault} (Ok ss) (Ok ts) → ss ≡ ts
sections_same ss ts h = cc

-- what is found of the sections of an archive is sound
pub archive-found : (store : Blocks) (roots : List (List ℕ)) (ds : List Delivery) (sections : List SectionMeaning) → IsArchivable store roots ds → All (IsJudged store) ds
    → section_list (archive_with store roots ds) ≡ Ok sections → (sections ≡ written_sections store roots ds) × (unsound_of sections ≡ [])
archive-found store roots ds sections written judged read =
    let same = sections_same sections (written_sections store roots ds) (sym read ∙ archive-sections store roots ds written) in
    (same, ap unsound_of same ∙ none-unsound (written_sections store roots ds) (written-sound store roots ds judged))

-- what is found of a file is sound where nothing else is found
pub found-sound : (most : ℕ) (f : Findings) → IsNoted section_finding most [] f.unsound → IsNoted link_finding most [] f.skips → f.is_over_limit ≡ false → IsCalledSound f
found-sound most f unsound skips over = (
  ap (λ (n : ℕ). (n == 0) && ((f.skips.count == 0) && not f.is_over_limit)) unsound.count
      ∙ ap (λ (n : ℕ). (n == 0) && not f.is_over_limit) skips.count
      ∙ ap not over,
  ap (λ (o : Outcome). worse o (worse f.skips.worst (outcome_at_limit f.is_over_limit))) unsound.worst
      ∙ ap (λ (o : Outcome). worse o (outcome_at_limit f.is_over_limit)) skips.worst
      ∙ ap outcome_at_limit over,
)

pub archive-verifies : (store : Blocks) (roots : List (List ℕ)) (ds : List Delivery) → IsArchivable store roots ds → All (IsJudged store) ds → HasSoundSections (archive_with store roots ds)
archive-verifies store roots ds written judged most f found =
    found-sound most f (subst (λ (l : List Unsound). IsNoted section_finding most l f.unsound) (archive-found store roots ds found.sections written judged found.read).1 found.unsound) found.reached.skipped found.reached.unfinished
