use Rattle.std.proofs.Common.{◌≡◌, ◌++◌, length, take, drop}
use Rattle.ix_stages.specs.Lanes.{EachLane, all_received, all_sent}
use Rattle.ix_pipeline.specs.Collecting.{CollectsAfter}
use Rattle.ix_pipeline.proofs.gather.drain_all.Given as goal

abbrev pub invariant-loop-i : goal.invariant-loop-i
invariant-loop-i g l = record {
  size : length l.senders ≡ length l.initial.senders;
  other : length l.receivers ≡ length l.initial.senders;
  lanes : EachLane (drop l.i l.senders) (drop l.i l.receivers);
  sent : all_sent l.senders ≡ all_sent l.initial.senders;
  collected : CollectsAfter g.S.Sink.calls g.S.Sink.guarantee (all_received l.initial.receivers) (all_sent (take l.i l.senders) ++ all_received (drop l.i l.receivers)) l.fn.collector l.collector l.initial.sinks l.sinks;
}
