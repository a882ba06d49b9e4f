use Rattle.std.proofs.Common.{◌≡◌, List, [], ◌∷◌, refl, ap, subst}
use Rattle.std.specs.Prelude.{Some}
use Rattle.ix_walk.specs.JobMeaning.{JobMeaning}
use Rattle.ix_jobs.specs.declared.results.JobResult.{JobResult}
use Rattle.ix_jobs.specs.Report.{report_of}
use Rattle.ix_api.proofs.exported.export_at.Goals as goal

pub returns-clause-exported : goal.returns-clause-exported
returns-clause-exported c =
    let report = c.in_ok-report.report.items in (
      (c.new.result, c.new.ensures.items, c.in-Ok.ensures.ran),
      subst (λ (results : List JobResult). report ≡ report_of (c.args.job.now ∷ []) results) c.from_ref-2.ensures.value
          (subst (λ (jobs : List JobMeaning). report ≡ report_of jobs c.from_ref-2.result.now) c.from_ref.ensures.value c.in_ok-report.ensures),
    )

pub returns-clause-beginning : goal.returns-clause-beginning
returns-clause-beginning c = c.in-Ok.ensures.ran.beginning (ap Some c.new.ensures.items) c.in-Ok.archive.items refl
