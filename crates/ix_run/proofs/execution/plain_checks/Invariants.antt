use Rattle.std.proofs.Common.{◌≡◌, vec_len, vec_capacity}
use Rattle.ix_pipeline.specs.Headline.{EachUnused}
use Rattle.ix_run.proofs.execution.plain_checks.Given as goal

abbrev pub invariant-loop : goal.invariant-loop
invariant-loop l = record {
  unused : EachUnused (λ c. c) l.checks.items;
  full : vec_len l.checks ≡ l.counter;
  room : vec_capacity l.checks ≡ l.count;
}
