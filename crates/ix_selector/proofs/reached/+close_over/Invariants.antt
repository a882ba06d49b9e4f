use Rattle.std.proofs.Common.{◌+◌, ◌*◌, take}
use Rattle.ix_selector.specs.States.{seen_states}
use Rattle.ix_selector.specs.Behind.{all_lead}
use Rattle.ix_selector.specs.Reaching.{members_at, Adds}
use Rattle.ix_selector.proofs.Reaching.{Reaches}
use Rattle.ix_selector.proofs.reached.+close_over.Given as goal

abbrev pub decreases-close_over : goal.decreases-close_over
decreases-close_over l = 2 * l.state.place + 1

abbrev pub decreases-close_over_each : goal.decreases-close_over_each
decreases-close_over_each l = 2 * l.state.place

abbrev pub invariant-close_over_each-loop-member : goal.invariant-close_over_each-loop-member
invariant-close_over_each-loop-member l =
    Reaches l.nodes l.initial.reached l.reached (members_at l.state (take l.member-index l.members))
    × Adds l.nodes l.initial.reached l.reached (all_lead (seen_states l.nodes (members_at l.state (take l.member-index l.members))))
