-- What is found of a file, by what is found of its sections and what is met from its roots on.
use Rattle.std.proofs.Common.{◌≡◌, ℕ, List, ◌∷◌, [], refl, sym, ap, subst}
use Rattle.std.specs.Prelude.{Ok}
use Rattle.ix_store.specs.Store.{Blocks}
use Rattle.ix_walk.specs.JobMeaning.{JobMeaning}
use Rattle.ix_walk.specs.Once.{first_ones}
use Rattle.ix_sections.specs.Sections.{SectionMeaning, section_list, roots_of}
use Rattle.ix_verify.specs.declared.file.Judged.{Judged}
use Rattle.ix_verify.specs.declared.reach.Reached.{Reached}
use Rattle.ix_verdict.specs.declared.allow_missing.AllowMissing.{AllowMissing}
use Rattle.ix_sections.specs.declared.files.loader.Copies.{Copies}
use Rattle.ix_sections.specs.declared.files.loader.Copies.TheVariants.{First}
use Rattle.ix_verify.specs.declared.found.Findings.{Findings}
use Rattle.ix_verify.specs.declared.found.Scope.TheVariants.{Sections as OfSections, Graph as OfGraph}
use Rattle.ix_verify.specs.Beside.{blocks_beside}
use Rattle.ix_verify.specs.Counted.{IsJudgedOf, findings_of}
use Rattle.ix_verdict.specs.AllowMissing.{allow_none, may_lack}
use Rattle.ix_verify.specs.Found.{store_of, IsReached, IsFoundBeside, IsFoundFor, IsFoundOf}
use Rattle.ix_verify.specs.Walked.{IsReachedBy, IsReachedFrom, IsReachedFromNone}
use Rattle.ix_verify.proofs.FileFaults.{reached-in, later-in}

-- by the sections alone
pub found-blocks : (b : List ℕ) (most : ℕ) (j : Judged) (f : Findings) (r : Reached) → IsJudgedOf b most j → f ≡ findings_of j r 0 → IsReachedFromNone r → IsFoundOf b OfSections most f
found-blocks b most j f r judged is none =
    subst (λ (x : Findings). IsFoundOf b OfSections most x) (sym is) (record {
      sections = judged.sections;
      read = judged.read;
      count = judged.count;
      unsound = judged.unsound;
      reached = none allow_none (store_of First (judged.sections ∷ [])) most;
      later = refl;
    })

-- and from the roots on
module _ (copies : Copies) (allowed : AllowMissing) (others : List (List SectionMeaning)) (b : List ℕ) (most : ℕ) (j : Judged) (f : Findings) (r : Reached) (later : ℕ) (judged : IsJudgedOf b most j) (is : f ≡ findings_of j r later) where
  pub found-roots : (store : Blocks) → blocks_beside copies others (section_list b) ≡ Ok (store, later) → IsReachedFrom allowed store j.roots.items most r → IsFoundBeside copies allowed others b OfGraph most f
  found-roots store stored reached =
      subst (λ (x : Findings). IsFoundBeside copies allowed others b OfGraph most x) (sym is) (record {
        sections = judged.sections;
        read = judged.read;
        count = judged.count;
        unsound = judged.unsound;
        reached =
            reached-in others copies allowed b store later judged.sections (first_ones (roots_of b)) most r.skips r.absent r.is_over_limit stored judged.read
            (subst (λ (roots : List (List ℕ)). IsReached allowed store roots most r.skips r.absent r.is_over_limit) (ap first_ones judged.roots) reached);
        later = later-in others copies b store later judged.sections stored judged.read;
      })

-- and of a job in a store
pub found-for : (allowed : AllowMissing) (store : Blocks) (job : JobMeaning) (b : List ℕ) (most : ℕ) (j : Judged) (f : Findings) (r : Reached) → IsJudgedOf b most j → f ≡ findings_of j r 0
    → IsReachedBy (may_lack allowed (first_ones job.roots)) store job most r → IsFoundFor allowed store job b most f
found-for allowed store job b most j f r judged is reached =
    subst (λ (x : Findings). IsFoundFor allowed store job b most x) (sym is) (record {
      sections = judged.sections;
      read = judged.read;
      count = judged.count;
      unsound = judged.unsound;
      reached = reached;
      later = refl;
    })
