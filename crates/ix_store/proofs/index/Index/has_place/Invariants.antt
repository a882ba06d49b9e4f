use Rattle.std.proofs.Common.{ℕ, drop}
use Rattle.std.specs.Prelude.{Option}
use Rattle.ix_store.specs.Index.{fingerprint, Leads, window_of}
use Rattle.ix_store.proofs.index.Index.has_place.Given as goal

abbrev pub invariant-loop-slot : goal.invariant-loop-slot
invariant-loop-slot l = (behind : Option ℕ) → Leads (window_of l.self.slots.items l.hash) behind (fingerprint l.hash) l.place → Leads (drop l.slot-index (window_of l.self.slots.items l.hash)) behind (fingerprint l.hash) l.place
