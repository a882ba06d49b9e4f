use Rattle.std.proofs.Common.{take}
use Rattle.ix_pipeline.specs.Collected.{AllEnded}
use Rattle.ix_pipeline.proofs.collector.Collector.is_done.Given as goal

abbrev pub invariant-loop-job : goal.invariant-loop-job
invariant-loop-job l = AllEnded (take l.job-index l.self.jobs.items)
