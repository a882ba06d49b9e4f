use Rattle.std.proofs.Common.{refl, sym}
use Rattle.ix_pipeline.specs.Progress.{end_of}
use Rattle.ix_pipeline.proofs.UnderWay.{open_walked, closes, walked_as}
use Rattle.ix_pipeline.proofs.plain.export_job.Goals as goal

pub close-requires : goal.close-requires
close-requires g c =
    open_walked c.args.store.now c.args.number c.args.job.now (end_of c.walk_job.result) (g.C.Check.checked c.args.check.now)
    (record { calls = g.S.Sink.calls c.walk_job.new.sink; pairs = g.C.Check.checked c.walk_job.new.check })
    c.walk_job.ensures.walked

pub returns-clause-exported : goal.returns-clause-exported
returns-clause-exported g c =
    closes c.args.store.now c.args.number c.args.job.now c.unwrap_or-end.result (g.C.Check.checked c.args.check.now)
    (record { calls = g.S.Sink.calls c.walk_job.new.sink; pairs = g.C.Check.checked c.walk_job.new.check })
    (g.S.Sink.calls c.close.new.self) (g.C.Check.checked c.walk_job.new.check)
    (walked_as c.args.store.now c.args.number c.args.job.now (g.C.Check.checked c.args.check.now)
    (record { calls = g.S.Sink.calls c.walk_job.new.sink; pairs = g.C.Check.checked c.walk_job.new.check })
    (end_of c.walk_job.result) c.unwrap_or-end.result (sym c.unwrap_or-end.ensures) c.walk_job.ensures.walked)
    c.close.ensures.closed c.close.ensures.failed refl
