use Rattle.std.proofs.Common.{◌≡◌, All}
use Rattle.std.specs.Vec.Iter.{into_iter_items}
use Rattle.ix_pipeline.proofs.caller.Caller.start_walkers.Given as goal

abbrev pub invariant-loop-claimer : goal.invariant-loop-claimer
invariant-loop-claimer g l = record {
  can_next : (goal.iterator-loop-claimer g).can_next l.claimer-iterator;
  finite : (goal.iterator-loop-claimer g).is_finite l.claimer-iterator;
  of : All (λ s. s.of ≡ l.shared.claims.now) (into_iter_items l.claimer-iterator);
}
