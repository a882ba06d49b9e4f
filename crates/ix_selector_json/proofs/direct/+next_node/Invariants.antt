use Rattle.std.proofs.Common.{◌+◌, ◌*◌, length}
use Rattle.ix_selector_json.proofs.Tokens.{ItemsSaid, MembersSaid}
use Rattle.ix_selector_json.proofs.direct.+next_node.Given as goal

abbrev pub decreases-next_entries : goal.decreases-next_entries
decreases-next_entries l = 2 * l.depth + 1

abbrev pub decreases-next_members : goal.decreases-next_members
decreases-next_members l = 2 * l.depth + 1

abbrev pub decreases-next_node : goal.decreases-next_node
decreases-next_node l = 2 * l.depth

abbrev pub invariant-next_entries-loop-entries : goal.invariant-next_entries-loop-entries
invariant-next_entries-loop-entries l = MembersSaid l.depth l.initial.reader l.reader l.entries.items

abbrev pub decreases-next_entries-loop-entries : goal.decreases-next_entries-loop-entries
decreases-next_entries-loop-entries l = length l.reader

abbrev pub invariant-next_members-loop-alloc : goal.invariant-next_members-loop-alloc
invariant-next_members-loop-alloc l = ItemsSaid l.depth l.initial.reader l.reader l.members.items

abbrev pub decreases-next_members-loop-alloc : goal.decreases-next_members-loop-alloc
decreases-next_members-loop-alloc l = length l.reader
