use Rattle.std.proofs.Common.{take}
use Rattle.std.specs.List.{All}
use Rattle.ix_selector.specs.Alike.{StateLooksAtNoStep}
use Rattle.ix_selector.proofs.stepping.look_at_no_step.Given as goal

abbrev pub invariant-loop-state : goal.invariant-loop-state
invariant-loop-state l = All (StateLooksAtNoStep l.nodes) (take l.state-index l.states)
