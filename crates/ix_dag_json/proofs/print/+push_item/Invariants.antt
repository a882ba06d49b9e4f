use Rattle.std.proofs.Common.{◌*◌, ◌+◌}
use Rattle.ix_dag_json.proofs.Places.{ItemsSoFar}
use Rattle.ix_dag_json.proofs.PlacedEntries.{PlacesSoFar}
use Rattle.ix_dag_json.proofs.print.+push_item.Given as goal

abbrev pub decreases-push_entries : goal.decreases-push_entries
decreases-push_entries l = 3 * l.levels + 2

abbrev pub decreases-push_item : goal.decreases-push_item
decreases-push_item l = 3 * l.levels

abbrev pub decreases-push_items : goal.decreases-push_items
decreases-push_items l = 3 * l.levels + 1

abbrev pub decreases-push_places : goal.decreases-push_places
decreases-push_places l = 3 * l.levels + 1

abbrev pub invariant-push_items-loop-index : goal.invariant-push_items-loop-index
invariant-push_items-loop-index l = ItemsSoFar l.levels l.count l.at l.initial.out l.out l.index l.rest

abbrev pub invariant-push_places-loop-entry : goal.invariant-push_places-loop-entry
invariant-push_places-loop-entry l = PlacesSoFar l.levels l.entries l.entry-index l.initial.out l.out
