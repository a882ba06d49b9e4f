use Rattle.std.proofs.Common.{◌≡◌}
use Rattle.ix_store.specs.Index.{IsIndexed}
use Rattle.ix_store.specs.Room.{taken_by, HasCrowdedOf}
use Rattle.ix_store.proofs.index.Index.make_room.Given as goal

abbrev pub invariant-loop-place : goal.invariant-loop-place
invariant-loop-place l = IsIndexed l.self l.entries × (l.taken.items ≡ taken_by l.size l.entries l.place) × HasCrowdedOf l.self l.entries l.size l.place
