use Rattle.std.proofs.Common.{rules, ◌≡◌, refl}
use Rattle.ix_pipeline.specs.Numbered.{IsMemory}
use Rattle.ix_pipeline.specs.declared.job_progress.Stage.TheVariants.{Delivering}
use Rattle.ix_pipeline.proofs.Arrivals.{arrives_late, arrives_placed, arrives_short, refused_for_memory, stays_or, shorts_or, counts_up}
use Rattle.ix_pipeline.proofs.job_progress.JobProgress.accept_visit.Goals as goal

pub returns-then-ne-clause-taken : goal.returns-then-ne-clause-taken
returns-then-ne-clause-taken c = record {
  sink = search rules;
  under_way = λ all over t u events failed fine a w.
      let late : c.args.self.now.stage ≡ Delivering → ⊥ = search rules in (
        refl,
        arrives_late all over t u c.args.seq c.args.delivery c.args.self.now _ events failed fine a w (counts_up c.args.self.now.arrived c.saturating_add-self.result c.saturating_add-self.ensures) refl
            (stays_or c.args.self.now.out_of_memory c.is_none.result) (shorts_or c.args.delivery c.args.self.now.out_of_memory c.is_none.result c.is_none.ensures) late refl,
      );
}

pub returns-in_default-clause-taken : goal.returns-in_default-clause-taken
returns-in_default-clause-taken c = record {
  sink = search rules;
  under_way = λ all over t u events failed fine a w.
      let at : c.args.self.now.stage ≡ Delivering = search rules in (
        refl,
        arrives_placed all over t u c.args.seq c.args.delivery c.args.self.now _ events failed fine a w (counts_up c.args.self.now.arrived c.saturating_add-self.result c.saturating_add-self.ensures) refl
            (stays_or c.args.self.now.out_of_memory c.is_none.result) (shorts_or c.args.delivery c.args.self.now.out_of_memory c.is_none.result c.is_none.ensures) at refl c.in_default.ensures.placed,
      );
}

pub returns-then-not-is_memory-clause-taken : goal.returns-then-not-is_memory-clause-taken
returns-then-not-is_memory-clause-taken c = record {
  sink = search rules;
  under_way = λ all over t u events failed fine a w.
      let at : c.args.self.now.stage ≡ Delivering = search rules in
      let memory : IsMemory c.in-Err.fault = refused_for_memory all over t u c.args.seq c.args.delivery c.args.self.now events failed c.in-Err.fault fine a w at c.requires.near c.in-Err.ensures.refused.1 in
      absurd (search rules);
}

pub returns-clause-taken : goal.returns-clause-taken
returns-clause-taken c = record {
  sink = search rules;
  under_way = λ all over t u events failed fine a w.
      let at : c.args.self.now.stage ≡ Delivering = search rules in
      (refl, arrives_short all over t u c.args.seq c.args.delivery c.args.self.now _ events failed fine a w (counts_up c.args.self.now.arrived c.saturating_add-self.result c.saturating_add-self.ensures) refl refl at refl);
}
