use Rattle.std.proofs.Common.{◌≡◌, length, take}
use Rattle.ix_store.specs.Index.{AreLedTo}
use Rattle.ix_store.specs.Room.{taken_in, taken_by}
use Rattle.ix_store.proofs.index.Index.fill_slots.Given as goal

abbrev pub invariant-loop-place : goal.invariant-loop-place
invariant-loop-place l =
    AreLedTo l.self.slots.items l.self (take l.place l.entries)
    × (taken_in l.self.slots.items ≡ taken_by (length l.fn.self.slots.items) l.entries l.place)
    × (l.self.overflow ≡ l.fn.self.overflow)
