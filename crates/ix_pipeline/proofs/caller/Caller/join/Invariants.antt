use Rattle.std.proofs.Common.{◌≡◌, ◌+◌, ◌++◌, length, vec_len, vec_capacity}
use Rattle.std.specs.Vec.Iter.{into_iter_items, into_iter_len}
use Rattle.ix_pipeline.specs.Caller.{AreJoined}
use Rattle.ix_pipeline.specs.Verifiers.{EachBack}
use Rattle.ix_pipeline.proofs.caller.Caller.join.Given as goal

abbrev pub invariant-loop-handle : goal.invariant-loop-handle
invariant-loop-handle g l = record {
  can_next : (goal.iterator-loop-handle g).can_next l.handle-iterator;
  finite : (goal.iterator-loop-handle g).is_finite l.handle-iterator;
  split : l.fn.self.verifiers.items ≡ l.yielded ++ into_iter_items l.handle-iterator;
  sized : into_iter_len l.handle-iterator ≡ length (into_iter_items l.handle-iterator);
  joined : AreJoined g.C.Check.checked l.yielded l.self;
  lanes : EachBack l.yielded l.self.senders.items;
  takers_fit : (vec_len l.self.takers + length (into_iter_items l.handle-iterator) ≡ vec_len l.fn.self.verifiers) × (vec_capacity l.self.takers ≡ vec_capacity l.fn.self.takers);
  senders_fit : (vec_len l.self.senders + length (into_iter_items l.handle-iterator) ≡ vec_len l.fn.self.verifiers) × (vec_capacity l.self.senders ≡ vec_capacity l.fn.self.senders);
  checks_fit : (vec_len l.self.checks + length (into_iter_items l.handle-iterator) ≡ vec_len l.fn.self.verifiers) × (vec_capacity l.self.checks ≡ vec_capacity l.fn.self.checks);
  rest : l.self ≡ record l.fn.self { verifiers = l.self.verifiers; takers = l.self.takers; senders = l.self.senders; checks = l.self.checks };
}
