use Rattle.std.proofs.Common.{subst}
use Rattle.ix_stages.specs.declared.verdicted.Verdicted.{Verdicted}
use Rattle.ix_pipeline.specs.JobProgress.{IsItem}
use Rattle.ix_pipeline.proofs.job_progress.JobProgress.accept.Goals as goal

pub returns-in-Checked-clause-noted : goal.returns-in-Checked-clause-noted
returns-in-Checked-clause-noted c = record {
  sink = c.accept_visit.ensures.taken.sink;
  under_way = λ all over t u events failed fine i w. c.accept_visit.ensures.taken.under_way all over t u events failed fine (subst (λ (x : Verdicted). IsItem all over x t u) c.in-Checked.is i) w;
}

pub returns-in-Unchecked-clause-noted : goal.returns-in-Unchecked-clause-noted
returns-in-Unchecked-clause-noted c = record {
  sink = c.accept_visit-in-Unchecked.ensures.taken.sink;
  under_way = λ all over t u events failed fine i w. c.accept_visit-in-Unchecked.ensures.taken.under_way all over t u events failed fine (subst (λ (x : Verdicted). IsItem all over x t u) c.in-Unchecked.is i) w;
}

pub returns-in-Close-clause-noted : goal.returns-in-Close-clause-noted
returns-in-Close-clause-noted c = record {
  sink = c.accept_close.ensures.noted.sink;
  under_way = λ all over t u events failed fine i w. c.accept_close.ensures.noted.under_way all over t u events failed fine (subst (λ (x : Verdicted). IsItem all over x t u) c.in-Close.is i) w;
}
