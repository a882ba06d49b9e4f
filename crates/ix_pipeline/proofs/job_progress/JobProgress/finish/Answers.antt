use Rattle.std.proofs.Common.{rules, ◌≡◌, ◌+◌}
use Rattle.ix_pipeline.proofs.Closings.{finishes}
use Rattle.ix_pipeline.proofs.job_progress.JobProgress.finish.Goals as goal

pub returns-clause-finished : goal.returns-clause-finished
returns-clause-finished g c = λ all over t fine w calm.
    let arrived : c.args.self.now.arrived ≡ c.in-Some.close.seq + 1 = search rules in
    finishes all over t fine c.args.self.now c.in-Some.close (g.S.Sink.calls c.args.sink.now).events (g.S.Sink.calls c.close.new.self).events (g.S.Sink.calls c.args.sink.now).failed (g.S.Sink.calls c.close.new.self).failed c.end_at-end.result w calm c.in-Some.is arrived c.end_at-end.ensures c.close.ensures.closed c.close.ensures.failed
