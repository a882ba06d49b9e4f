use Rattle.std.proofs.Common.{◌≡◌, ◌≤◌, ◌+◌, [], All, length, vec_len, vec_capacity}
use Rattle.std.specs.Vec.Iter.{into_iter_items}
use Rattle.ix_stages.specs.Lanes.{all_received}
use Rattle.ix_stages.specs.Shared.{store_of, queue_of}
use Rattle.ix_pipeline.specs.Verifiers.{IsUnstarted, IsBegan, EachOut}
use Rattle.ix_pipeline.proofs.caller.Caller.start_verifiers.Given as goal

abbrev pub invariant-loop-verifier : goal.invariant-loop-verifier
invariant-loop-verifier g l = record {
  can_next : (goal.iterator-loop-verifier g).can_next l.verifier-iterator;
  finite : (goal.iterator-loop-verifier g).is_finite l.verifier-iterator;
  unstarted : All (IsUnstarted g.C.Check.checked (store_of l.shared) (queue_of l.shared)) (into_iter_items l.verifier-iterator);
  began : All (IsBegan g.C.Check.checked (store_of l.shared) (queue_of l.shared)) l.self.verifiers.items;
  lanes : EachOut l.self.verifiers.items l.self.lanes.items;
  none : all_received l.self.lanes.items ≡ [];
  verifiers_fit : (vec_len l.self.verifiers + length (into_iter_items l.verifier-iterator) ≤ vec_len l.fn.self.unstarted) × (vec_capacity l.self.verifiers ≡ vec_capacity l.fn.self.verifiers);
  lanes_fit : (vec_len l.self.lanes + length (into_iter_items l.verifier-iterator) ≤ vec_len l.fn.self.unstarted) × (vec_capacity l.self.lanes ≡ vec_capacity l.fn.self.lanes);
  rest : l.self ≡ record l.fn.self { unstarted = l.self.unstarted; verifiers = l.self.verifiers; lanes = l.self.lanes };
}
