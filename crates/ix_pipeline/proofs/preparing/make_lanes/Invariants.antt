use Rattle.std.proofs.Common.{◌≡◌, All, vec_len, vec_capacity}
use Rattle.ix_stages.specs.Lanes.{IsNewLane}
use Rattle.ix_pipeline.proofs.preparing.make_lanes.Given as goal

abbrev pub invariant-loop : goal.invariant-loop
invariant-loop l = record {
  new : All (λ p. IsNewLane l.capacity p.0 p.1) l.lanes.items;
  counted : vec_len l.lanes ≡ l.counter;
  room : vec_capacity l.lanes ≡ l.count;
}
