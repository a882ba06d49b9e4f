use Rattle.std.proofs.Common.{◌≡◌, length, vec_len, vec_capacity}
use Rattle.ix_pipeline.proofs.Exported.{IsThrough}
use Rattle.ix_pipeline.proofs.plain.export_plain.Given as goal

abbrev pub invariant-loop-number : goal.invariant-loop-number
invariant-loop-number g l = record {
  through : IsThrough g.S.Sink.calls g.S.Sink.guarantee l.store l.jobs l.number l.ends.items l.initial.sinks l.sinks (g.C.Check.checked l.check);
  room : vec_capacity l.ends ≡ length l.jobs;
  counted : vec_len l.ends ≡ l.number;
}
