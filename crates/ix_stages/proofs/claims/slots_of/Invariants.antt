use Rattle.std.proofs.Common.{◌≡◌, ◌++◌, map, Some}
use Rattle.std.specs.Vec.Iter.{into_iter_items}
use Rattle.ix_stages.proofs.claims.slots_of.Given as goal

abbrev pub invariant-loop-value : goal.invariant-loop-value
invariant-loop-value g l = (l.slots.items ≡ map Some l.yielded) × (l.fn.values.items ≡ l.yielded ++ into_iter_items l.value-iterator)
