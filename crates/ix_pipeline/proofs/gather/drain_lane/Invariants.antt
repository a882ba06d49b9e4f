use Rattle.ix_stages.specs.Lanes.{received_by, IsLane, IsSameLane}
use Rattle.ix_pipeline.specs.Collecting.{CollectsAmong}
use Rattle.ix_pipeline.proofs.gather.drain_lane.Given as goal

abbrev pub invariant-loop : goal.invariant-loop
invariant-loop g l = record {
  lane : IsLane l.sender l.receiver;
  same : IsSameLane l.fn.sender l.sender l.fn.receiver l.receiver;
  collected : CollectsAmong g.S.Sink.calls g.S.Sink.guarantee (received_by l.fn.receiver) (received_by l.receiver) l.fn.collector l.collector l.initial.sinks l.sinks;
}
