use Rattle.std.proofs.Common.{◌≡◌, vec_len, vec_capacity}
use Rattle.ix_pipeline.proofs.ThreadClosings.{IsClosedTo}
use Rattle.ix_pipeline.proofs.caller.close_all.Given as goal

abbrev pub invariant-loop-sink : goal.invariant-loop-sink
invariant-loop-sink g l = record {
  closed : IsClosedTo g.S.Sink.calls g.S.Sink.guarantee l.end l.sink-index l.ends.items l.initial.sinks l.sinks;
  room : vec_capacity l.ends ≡ vec_capacity l.fn.ends;
  counted : vec_len l.ends ≡ l.sink-index;
}
