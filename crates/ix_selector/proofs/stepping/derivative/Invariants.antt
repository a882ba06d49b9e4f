use Rattle.std.proofs.Common.{take}
use Rattle.ix_selector.specs.Residual.{step_of}
use Rattle.ix_selector.specs.States.{seen_states}
use Rattle.ix_selector.specs.Behind.{all_lead_after}
use Rattle.ix_selector.specs.Reaching.{Adds}
use Rattle.ix_selector.proofs.Residues.{Stepped}
use Rattle.ix_selector.proofs.stepping.derivative.Given as goal

abbrev pub invariant-loop-state : goal.invariant-loop-state
invariant-loop-state l =
    Stepped l.nodes (step_of l.step) l.reached (take l.state-index l.states)
    × Adds l.nodes l.initial.reached l.reached (all_lead_after (seen_states l.nodes (take l.state-index l.states)) (step_of l.step))
