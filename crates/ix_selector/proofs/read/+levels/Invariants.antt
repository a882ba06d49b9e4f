use Rattle.std.proofs.Common.{◌≡◌, ◌+◌, ◌*◌, map, drop}
use Rattle.ix_selector.specs.Pattern.{pattern_of}
use Rattle.ix_selector.specs.Reading.{selector_at, fields_read, members_read}
use Rattle.ix_selector.specs.Views.{seen_field}
use Rattle.ix_selector.specs.Shapes.{around_of, entries_data, items_data}
use Rattle.ix_selector.proofs.Fronts.{with_fields, with_members}
use Rattle.ix_selector.proofs.read.+levels.Given as goal

abbrev pub decreases-selector_at : goal.decreases-selector_at
decreases-selector_at l = 4 * l.levels

abbrev pub decreases-selector_with : goal.decreases-selector_with
decreases-selector_with l = 4 * l.levels + 3

abbrev pub decreases-selector_inside : goal.decreases-selector_inside
decreases-selector_inside l = 4 * l.levels + 2

abbrev pub decreases-boxed : goal.decreases-boxed
decreases-boxed l = 4 * l.levels + 1

abbrev pub decreases-fields_inside : goal.decreases-fields_inside
decreases-fields_inside l = 4 * l.levels + 1

abbrev pub decreases-members_inside : goal.decreases-members_inside
decreases-members_inside l = 4 * l.levels + 1

abbrev pub invariant-fields_inside-loop-name : goal.invariant-fields_inside-loop-name
invariant-fields_inside-loop-name l =
    with_fields (map seen_field l.fields.items) (fields_read (selector_at l.levels (around_of l.around)) (entries_data (drop l.name-index l.names)))
    ≡ fields_read (selector_at l.levels (around_of l.around)) (entries_data l.names)

abbrev pub invariant-members_inside-loop-node : goal.invariant-members_inside-loop-node
invariant-members_inside-loop-node l =
    with_members (map pattern_of l.members.items) (members_read (selector_at l.levels (around_of l.around)) (items_data (drop l.node-index l.nodes)))
    ≡ members_read (selector_at l.levels (around_of l.around)) (items_data l.nodes)
