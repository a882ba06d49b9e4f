use Rattle.std.proofs.Common.{◌≡◌, length, vec_capacity}
use Rattle.ix_pipeline.specs.Collected.{AllNew}
use Rattle.ix_pipeline.proofs.collector.Collector.new.Given as goal

abbrev pub invariant-loop : goal.invariant-loop
invariant-loop l = record {
  fresh : AllNew l.all.items;
  counted : length l.all.items ≡ l.counter;
  room : vec_capacity l.all ≡ l.jobs;
}
