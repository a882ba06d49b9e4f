use Rattle.std.proofs.Common.{rules, Option, subst}
use Rattle.ix_car.specs.declared.sink.Delivery.{Delivery}
use Rattle.ix_pipeline.specs.JobProgress.{IsPoppedUnderWay}
use Rattle.ix_pipeline.proofs.Delivering.{handed_on, handed_failed, safe_on}
use Rattle.ix_pipeline.proofs.job_progress.JobProgress.deliver_one.Goals as goal

pub returns-in-Ok-clause-kept : goal.returns-in-Ok-clause-kept
returns-in-Ok-clause-kept g c = (
  (
    c.requires.sink.0,
    safe_on c.args.self.now (g.S.Sink.calls c.args.sink.now).events (g.S.Sink.calls c.deliver.new.self).events (g.S.Sink.calls c.args.sink.now).failed (g.S.Sink.calls c.deliver.new.self).failed c.in-Some.field-0 c.requires.sink.0 c.requires.sink.1 c.in-Ok.ensures.ok
        c.in-Ok.ensures.ok_failed,
  ),
  c.deliver.ensures.kept,
)

pub returns-in-Ok-clause-handed : goal.returns-in-Ok-clause-handed
returns-in-Ok-clause-handed g c = λ all over t w.
    handed_on all over t c.args.self.now c.in-Some.field-0 (g.S.Sink.calls c.args.sink.now).events (g.S.Sink.calls c.deliver.new.self).events (g.S.Sink.calls c.args.sink.now).failed (g.S.Sink.calls c.deliver.new.self).failed
    (subst (λ (o : Option Delivery). IsPoppedUnderWay all over t o c.args.self.now (g.S.Sink.calls c.args.sink.now).events (g.S.Sink.calls c.args.sink.now).failed) c.in-Some.is w) c.requires.stage c.in-Ok.ensures.ok c.in-Ok.ensures.ok_failed

pub returns-in-Err-Write-clause-handed : goal.returns-in-Err-Write-clause-handed
returns-in-Err-Write-clause-handed g c = λ all over t w.
    handed_failed all over t c.args.self.now c.in-Some.field-0 (g.S.Sink.calls c.args.sink.now).events (g.S.Sink.calls c.deliver.new.self).events (g.S.Sink.calls c.args.sink.now).failed (g.S.Sink.calls c.deliver.new.self).failed
    (subst (λ (o : Option Delivery). IsPoppedUnderWay all over t o c.args.self.now (g.S.Sink.calls c.args.sink.now).events (g.S.Sink.calls c.args.sink.now).failed) c.in-Some.is w) c.in-Err-Write.ensures.err (search rules)
