use Rattle.ix_pipeline.specs.Headline.{Keeps}
use Rattle.ix_pipeline.proofs.UnderWay.{IsUnderWay}
use Rattle.ix_pipeline.proofs.plain.walk_job.Given as goal

abbrev pub invariant-loop-item : goal.invariant-loop-item
invariant-loop-item g l = record {
  under : IsUnderWay l.store l.number l.job l.item-iterator l.state (g.C.Check.checked l.initial.check) (record { calls = g.S.Sink.calls l.sink; pairs = g.C.Check.checked l.check });
  kept : Keeps g.S.Sink.guarantee l.initial.sink l.sink;
}
