use Rattle.std.proofs.Common.{◌+◌, ◌*◌}
use Rattle.ix_selector_json.proofs.place.+places.Given as goal

abbrev pub decreases-in_selector : goal.decreases-in_selector
decreases-in_selector l = 2 * l.levels

abbrev pub decreases-in_fields : goal.decreases-in_fields
decreases-in_fields l = 2 * l.levels + 1

abbrev pub decreases-in_members : goal.decreases-in_members
decreases-in_members l = 2 * l.levels + 1
