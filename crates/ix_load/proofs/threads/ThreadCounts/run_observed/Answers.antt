use Rattle.std.proofs.Common.{◌∙◌, refl, subst}
use Rattle.std.specs.Prelude.{Option}
use Rattle.std.specs.Arc.{arc_value}
use Rattle.ix_store.specs.declared.places.PlaceSet.{PlaceSet}
use Rattle.ix_car.specs.Archive.{known_at}
use Rattle.ix_run.specs.Run.{HasRun}
use Rattle.ix_load.proofs.Borrowed.{map-copied}
use Rattle.ix_load.proofs.threads.ThreadCounts.run_observed.Goals as goal

pub returns-clause-ran : goal.returns-clause-ran
returns-clause-ran g c =
    let store = arc_value c.args.blocks.now.store in
    let jobs = (arc_value c.args.jobs.now).items in
    let out = c.in_ok-out.out in
    record {
      out = out;
      has_run = subst (λ (known : Option PlaceSet). HasRun g.W.Write.contents (known_at store known) store jobs c.args.writers.items out) (map-copied c.as_ref.result ∙ c.as_ref.ensures.value) c.in_ok-out.ensures.ran;
      report = refl {a = out.report.items};
      status = refl {a = out.status};
      results = refl {a = out.results.items};
    }
