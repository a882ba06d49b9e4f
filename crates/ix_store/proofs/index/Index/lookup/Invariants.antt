use Rattle.ix_store.specs.Store.{position_of}
use Rattle.ix_store.specs.Index.{key_hash, fingerprint, place_after, window_of}
use Rattle.ix_store.proofs.Indexes.{Passed}
use Rattle.ix_store.proofs.index.Index.lookup.Given as goal

abbrev pub invariant-loop-step : goal.invariant-loop-step
invariant-loop-step l =
    Passed (window_of l.self.slots.items (key_hash l.cid)) l.step (place_after l.self l.cid) (fingerprint (key_hash l.cid)) (position_of l.entries l.cid)
