use Rattle.std.proofs.Common.{rules, ◌≡◌, refl, true}
use Rattle.std.proofs.lemmas.Bool.{or_right}
use Rattle.ix_car.specs.declared.sink.End.TheVariants.{Memory}
use Rattle.ix_pipeline.proofs.Closes.{close_arrives, no_second_close}
use Rattle.ix_pipeline.proofs.Arrivals.{stays_or, counts_up}
use Rattle.ix_pipeline.proofs.job_progress.JobProgress.accept_close.Goals as goal

pub returns-then-is_some-clause-noted : goal.returns-then-is_some-clause-noted
returns-then-is_some-clause-noted c = record {
  sink = search rules;
  under_way = λ all over t u events failed fine a w. absurd (no_second_close all over t u c.args.seq c.args.end c.args.self.now events failed fine a w (search rules));
}

pub returns-clause-noted : goal.returns-clause-noted
returns-clause-noted c = record {
  sink = search rules;
  under_way = λ all over t u events failed fine a w.
      let equal : c.args.end ≡ Memory → c.eq.result ≡ true = search rules in (
        refl,
        close_arrives all over t u c.args.seq c.args.end c.args.self.now c.saturating_add-self.result _ events failed fine a w (counts_up c.args.self.now.arrived c.saturating_add-self.result c.saturating_add-self.ensures)
            (stays_or c.args.self.now.out_of_memory c.eq.result) (λ e. or_right c.args.self.now.out_of_memory c.eq.result (equal e)),
      );
}
