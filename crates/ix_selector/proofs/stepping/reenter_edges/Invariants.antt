use Rattle.std.proofs.Common.{length}
use Rattle.ix_selector.proofs.EnteredOnce.{ReachesSame}
use Rattle.ix_selector.proofs.stepping.reenter_edges.Given as goal

abbrev pub invariant-loop-state : goal.invariant-loop-state
invariant-loop-state l = ReachesSame l.nodes l.initial.reached l.reached

abbrev pub decreases-loop-state : goal.decreases-loop-state
decreases-loop-state l = length l.reached.reentries.items
