use Rattle.std.proofs.Common.{◌≡◌, map, ◌+◌, ◌-◌, ◌*◌}
use Rattle.std.specs.Prelude.{None, option_map}
use Rattle.ix_cbor.specs.Data.{data_of, entry_of}
use Rattle.ix_cbor.specs.Reading.{item_at, items_at, entries_at}
use Rattle.ix_cbor.proofs.Fronts.{with_front}
use Rattle.ix_cbor.proofs.EntryFronts as entries
use Rattle.ix_cbor.proofs.read.+item.Given as goal

abbrev pub decreases-branch : goal.decreases-branch
decreases-branch l = 3 * l.levels + 2

abbrev pub decreases-item : goal.decreases-item
decreases-item l = 3 * l.levels

abbrev pub decreases-items : goal.decreases-items
decreases-items l = 3 * l.levels + 1

abbrev pub decreases-entries : goal.decreases-entries
decreases-entries l = 3 * l.levels + 1

abbrev pub invariant-items-loop : goal.invariant-items-loop
invariant-items-loop l = with_front (map data_of l.members.items) (items_at (item_at l.levels) (l.count - l.counter) l.rest) ≡ items_at (item_at l.levels) l.count l.bytes

abbrev pub invariant-entries-loop : goal.invariant-entries-loop
invariant-entries-loop l = entries.with_front (map entry_of l.members.items) (entries_at (item_at l.levels) (option_map (λ k. k.now) l.before) (l.count - l.counter) l.rest) ≡ entries_at (item_at l.levels) None l.count l.bytes
