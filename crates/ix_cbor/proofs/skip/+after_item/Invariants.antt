use Rattle.std.proofs.Common.{◌≡◌, ◌+◌, ◌-◌, ◌*◌}
use Rattle.std.specs.Prelude.{None, option_map}
use Rattle.ix_cbor.specs.Reading.{◌>>=◌, item_at, items_at, entries_at}
use Rattle.ix_cbor.specs.Fronts.{behind}
use Rattle.ix_cbor.proofs.skip.+after_item.Given as goal

abbrev pub decreases-after_branch : goal.decreases-after_branch
decreases-after_branch l = 3 * l.levels + 2

abbrev pub decreases-after_item : goal.decreases-after_item
decreases-after_item l = 3 * l.levels

abbrev pub decreases-after_items : goal.decreases-after_items
decreases-after_items l = 3 * l.levels + 1

abbrev pub decreases-after_entries : goal.decreases-after_entries
decreases-after_entries l = 3 * l.levels + 1

abbrev pub invariant-after_items-loop : goal.invariant-after_items-loop
invariant-after_items-loop l = (items_at (item_at l.levels) (l.count - l.counter) l.rest >>= behind) ≡ (items_at (item_at l.levels) l.count l.bytes >>= behind)

abbrev pub invariant-after_entries-loop : goal.invariant-after_entries-loop
invariant-after_entries-loop l = (entries_at (item_at l.levels) (option_map (λ k. k.now) l.before) (l.count - l.counter) l.rest >>= behind) ≡ (entries_at (item_at l.levels) None l.count l.bytes >>= behind)
