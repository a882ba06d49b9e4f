use Rattle.std.proofs.Common.{◌+◌, ◌*◌, take}
use Rattle.ix_selector.proofs.Putting.{FieldsPut, MembersPut}
use Rattle.ix_selector.proofs.selector_node.+nodes.Given as goal

abbrev pub decreases-push_nodes : goal.decreases-push_nodes
decreases-push_nodes l = 3 * goal.size-push_nodes l + 1

abbrev pub decreases-node_of : goal.decreases-node_of
decreases-node_of l = 3 * goal.size-node_of l

abbrev pub decreases-push_fields : goal.decreases-push_fields
decreases-push_fields l = 3 * goal.size-push_fields l + 2

abbrev pub decreases-push_members : goal.decreases-push_members
decreases-push_members l = 3 * goal.size-push_members l + 2

abbrev pub invariant-push_fields-loop-name : goal.invariant-push_fields-loop-name
invariant-push_fields-loop-name l = FieldsPut l.initial.nodes.items l.nodes.items l.names.items (take l.name-index l.fields)

abbrev pub invariant-push_members-loop-sel : goal.invariant-push_members-loop-sel
invariant-push_members-loop-sel l = MembersPut l.initial.nodes.items l.nodes.items l.numbers.items (take l.sel-index l.members)
