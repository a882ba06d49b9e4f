-- What is found of the archive of what a selector enters below roots, and of everything below them.
use Rattle.std.proofs.Common.{◌≡◌, ℕ, ◌≤◌, Bool, false, List, [], length, sym, ◌∙◌, ap, subst}
use Rattle.std.specs.Prelude.{Ok}
use Rattle.ix_selector.specs.Pattern.{Pattern, everything}
use Rattle.ix_store.specs.Store.{Blocks}
use Rattle.ix_walk.specs.JobMeaning.{JobMeaning}
use Rattle.ix_walk.specs.Once.{first_ones}
use Rattle.ix_walk.specs.Visits.{is_over_limit}
use Rattle.ix_car.specs.Archive.{archive_of}
use Rattle.ix_car.specs.Report.{skips_of}
use Rattle.ix_car.specs.declared.archive.Skip.{Skip}
use Rattle.ix_sections.specs.Sections.{SectionMeaning, section_list, with_sections, roots_of}
use Rattle.ix_car.specs.Verified.{verified, judged_visits}
use Rattle.ix_verify.specs.declared.found.Findings.{Findings}
use Rattle.ix_verify.specs.declared.found.Unsound.{Unsound}
use Rattle.ix_verify.specs.Noting.{IsNoted}
use Rattle.ix_verify.specs.Outcome.{section_finding, link_finding}
use Rattle.ix_verdict.specs.AllowMissing.{allow_none, may_lack}
use Rattle.ix_verify.specs.Found.{job_below, verified_job, unsound_of, IsWalkOf, IsReached, IsCalledSound, IsSoundFile, IsSoundFileFor}
use Rattle.ix_verify.specs.Written.{written_sections, IsArchivable}
use Rattle.ix_verify.proofs.SoundSections.{All-verified}
use Rattle.ix_verify.proofs.ArchivesAgain.{archive-roots, archive-found, sections_same, found-sound}
use Rattle.ix_verify.proofs.WholeAgain.{as-they-are, finished, nothing-skipped}

module _ (store : Blocks) (number : ℕ) (selector : Pattern) (name : List ℕ) (limit : ℕ) (roots : List (List ℕ)) (written : IsArchivable store roots (verified store number (job_below selector name limit roots)))
    (few : limit ≤ 4294967295) (within : is_over_limit store (job_below selector name limit roots) ≡ false) (none : skips_of (judged_visits store number (job_below selector name limit roots)) ≡ []) where
  abbrev job : JobMeaning
  job = job_below selector name limit roots

  abbrev kept : Blocks
  kept = with_sections [] (written_sections store roots (verified store number job))

  -- the archive is sound if these are its sections, and the walk is that of the job that verifies over them
  pub walked-sound : (sections : List SectionMeaning) (lack : List ℕ → Bool) (most : ℕ) (f : Findings) → section_list (archive_of store number job) ≡ Ok sections
      → IsNoted section_finding most (unsound_of sections) f.unsound
      → IsWalkOf lack (with_sections [] sections) (verified_job selector roots) most f.skips f.absent f.is_over_limit → IsCalledSound f
  walked-sound sections lack most f read unsound walked =
      let of = archive-found store roots (verified store number job) sections written (All-verified store number job) read in
      let reached : IsWalkOf lack kept (verified_job selector roots) most f.skips f.absent f.is_over_limit =
      subst (λ (ss : List SectionMeaning). IsWalkOf lack (with_sections [] ss) (verified_job selector roots) most f.skips f.absent f.is_over_limit) of.0 walked in
      let skips : IsNoted link_finding most [] f.skips =
      subst (λ (l : List Skip). IsNoted link_finding most l f.skips) (nothing-skipped store number selector name limit roots few within none lack) reached.skipped in
      found-sound most f (subst (λ (l : List Unsound). IsNoted section_finding most l f.unsound) of.1 unsound) skips
      (reached.unfinished ∙ finished store number selector name limit roots few within none)

  pub archive-selected : IsSoundFileFor (verified_job selector roots) (archive_of store number job)
  archive-selected sections most f read found =
      let same : found.sections ≡ sections = sections_same found.sections sections (sym found.read ∙ read) in
      walked-sound sections (may_lack allow_none (first_ones roots)) most f read
      (subst (λ (ss : List SectionMeaning). IsNoted section_finding most (unsound_of ss) f.unsound) same found.unsound) found.reached

-- the one walk of all roots of an archive is that job's, if they are distinct and few
pub archive-whole : (store : Blocks) (number : ℕ) (name : List ℕ) (limit : ℕ) (roots : List (List ℕ)) → IsArchivable store roots (verified store number (job_below everything name limit roots))
    → first_ones roots ≡ roots → length roots ≤ 64 → limit ≤ 4294967295 → is_over_limit store (job_below everything name limit roots) ≡ false → skips_of (judged_visits store number (job_below everything name limit roots)) ≡ []
    → IsSoundFile (archive_of store number (job_below everything name limit roots))
archive-whole store number name limit roots written distinct short few within none most f found =
    let job = job_below everything name limit roots in
    let named : first_ones (roots_of (archive_of store number job)) ≡ roots = ap first_ones (archive-roots store roots (verified store number job) written) ∙ distinct in
    let met : IsReached allow_none (with_sections [] found.sections) roots most f.skips f.absent f.is_over_limit =
    subst (λ (rs : List (List ℕ)). IsReached allow_none (with_sections [] found.sections) rs most f.skips f.absent f.is_over_limit) named found.reached in
    let reached : IsWalkOf (may_lack allow_none roots) (with_sections [] found.sections) (verified_job everything roots) most f.skips f.absent f.is_over_limit =
    subst (λ (j : JobMeaning). IsWalkOf (may_lack allow_none roots) (with_sections [] found.sections) j most f.skips f.absent f.is_over_limit) (as-they-are roots short) met in
    walked-sound store number everything name limit roots written few within none found.sections (may_lack allow_none roots) most f found.read found.unsound reached
