use Rattle.ix_pipeline.proofs.Deliveries.{hands_of}
use Rattle.ix_pipeline.proofs.plain.hand_on.Goals as goal

pub returns : goal.returns
returns g c = record {
  handed =
      hands_of c.args.store.now c.args.visit c.in_ok-verdict.verdict c.args.state c.deliver_one.result (g.S.Sink.calls c.args.sink.now) (g.S.Sink.calls c.deliver_one.new.sink) (g.C.Check.checked c.args.check.now) (g.C.Check.checked c.check.new.self)
      c.in_ok-verdict.ensures.verdict c.in_ok-verdict.ensures.noted c.deliver_one.ensures.delivered;
  kept = c.deliver_one.ensures.kept;
}
