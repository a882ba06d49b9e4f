use Rattle.std.proofs.Common.{◌+◌, ◌*◌, take}
use Rattle.ix_selector.specs.Reaching.{members_at}
use Rattle.ix_selector.proofs.EnteredOnce.{ReentersSoFar}
use Rattle.ix_selector.proofs.reentry.+reenter.Given as goal

abbrev pub decreases-reenter : goal.decreases-reenter
decreases-reenter l = 2 * l.state.place + 1

abbrev pub decreases-reenter_each : goal.decreases-reenter_each
decreases-reenter_each l = 2 * l.state.place

abbrev pub invariant-reenter_each-loop-member : goal.invariant-reenter_each-loop-member
invariant-reenter_each-loop-member l = ReentersSoFar l.nodes l.initial.reached l.reached (members_at l.state (take l.member-index l.members))
