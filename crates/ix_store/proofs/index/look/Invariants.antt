use Rattle.std.proofs.Common.{◌≡◌, drop}
use Rattle.ix_store.specs.Index.{probe_of, window_of, key_hash, fingerprint}
use Rattle.ix_store.proofs.index.look.Given as goal

abbrev pub invariant-loop-slot : goal.invariant-loop-slot
invariant-loop-slot l =
    probe_of l.entries (drop l.slot-index (window_of l.slots (key_hash l.cid))) (fingerprint (key_hash l.cid)) l.cid
    ≡ probe_of l.entries (window_of l.slots (key_hash l.cid)) (fingerprint (key_hash l.cid)) l.cid
