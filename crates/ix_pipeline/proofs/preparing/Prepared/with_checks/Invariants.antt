use Rattle.std.proofs.Common.{◌≡◌, ◌+◌, All, length, vec_len, vec_capacity}
use Rattle.std.specs.Vec.Iter.{into_iter_items}
use Rattle.ix_car.specs.Headline.{EachUnused}
use Rattle.ix_stages.specs.Lanes.{IsNewLane}
use Rattle.ix_stages.specs.Queue.{table_of}
use Rattle.ix_pipeline.specs.Verifiers.{IsUnstarted}
use Rattle.ix_pipeline.proofs.Makes.{IsIdle}
use Rattle.ix_pipeline.proofs.preparing.Prepared.with_checks.Given as goal

abbrev pub invariant-loop-check : goal.invariant-loop-check
invariant-loop-check g l = record {
  can_next : (goal.iterator-loop-check g).can_next l.check-iterator;
  finite : (goal.iterator-loop-check g).is_finite l.check-iterator;
  unused : EachUnused g.C.Check.checked (into_iter_items l.check-iterator);
  idle : All (IsIdle l.store (table_of l.queue)) l.takers.items;
  new : All (λ p. IsNewLane l.fn.plan.lane p.0 p.1) l.lanes.items;
  unstarted : All (IsUnstarted g.C.Check.checked l.store (table_of l.queue)) l.caller.unstarted.items;
  takers_left : vec_len l.takers ≡ length (into_iter_items l.check-iterator);
  lanes_left : vec_len l.lanes ≡ length (into_iter_items l.check-iterator);
  count : vec_len l.caller.unstarted + length (into_iter_items l.check-iterator) ≡ vec_len l.fn.checks;
  room : vec_capacity l.caller.unstarted ≡ vec_capacity l.initial.caller.unstarted;
  rest : l.caller ≡ record l.initial.caller { unstarted = l.caller.unstarted };
}
