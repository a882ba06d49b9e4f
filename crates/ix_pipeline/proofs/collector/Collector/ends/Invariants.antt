use Rattle.std.proofs.Common.{◌≡◌, take, map, vec_len, vec_capacity}
use Rattle.ix_pipeline.proofs.Finished.{end_or}
use Rattle.ix_pipeline.proofs.collector.Collector.ends.Given as goal

abbrev pub invariant-loop-job : goal.invariant-loop-job
invariant-loop-job l = record {
  ends : l.ends.items ≡ map end_or (take l.job-index l.self.jobs.items);
  counted : vec_len l.ends ≡ l.job-index;
  room : vec_capacity l.ends ≡ vec_capacity l.initial.ends;
}
