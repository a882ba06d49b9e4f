use Rattle.std.proofs.Common.{◌≡◌, ◌≤◌, length}
use Rattle.ix_pipeline.proofs.Rounds.{HaveGiven}
use Rattle.ix_pipeline.proofs.gather.poll_lanes.Given as goal

abbrev pub invariant-loop-i : goal.invariant-loop-i
invariant-loop-i g l = record {
  size : length l.lanes ≡ length l.initial.lanes;
  few : (l.items ≤ l.i) × (l.ended_lanes ≤ l.i);
  given : HaveGiven g.S.Sink.calls g.S.Sink.guarantee l.initial.lanes l.lanes l.items l.ended_lanes l.fn.collector l.collector l.initial.sinks l.sinks;
}
