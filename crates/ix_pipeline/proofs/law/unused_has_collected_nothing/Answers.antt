use Rattle.ix_pipeline.proofs.Beginning.{safe_new, come_new}
use Rattle.ix_pipeline.proofs.law.unused_has_collected_nothing.Goals as goal

pub returns-clause-may : goal.returns-clause-may
returns-clause-may g c = λ collector sinks sized unused fresh. safe_new g.S.Sink.calls collector.jobs.items sinks sized unused.0 fresh

pub returns-clause-collected : goal.returns-clause-collected
returns-clause-collected g c = λ collector sinks sized unused fresh store jobs good len. (unused.1, come_new g.S.Sink.calls store jobs 0 collector.jobs.items sinks sized unused.0 fresh)
