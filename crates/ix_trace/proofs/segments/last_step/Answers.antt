use Rattle.std.proofs.Common.{◌≡◌, ◌++◌, ◌∷◌, [], ◌-◌, take, subst, sym}
use Rattle.std.specs.Prelude.{IfNone, IfSome}
use Rattle.ix_selector.specs.Residual.{step_of}
use Rattle.ix_trace.specs.declared.expansion.StepFrom.{StepFrom}
use Rattle.ix_trace.specs.Links.{steps_to}
use Rattle.ix_trace.proofs.Steps.{no_steps, last_there, last_none}
use Rattle.ix_trace.proofs.segments.last_step.Goals as goal

pub returns-in_err-checked_sub-clause-none : goal.returns-in_err-checked_sub-clause-none
returns-in_err-checked_sub-clause-none c =
    subst (λ o. IfNone o (steps_to c.args.steps.now c.args.node ≡ [])) (sym c.from_residual.ensures) (no_steps c.args.steps.now c.args.node c.in_err-checked_sub.ensures)

pub returns-clause-last : goal.returns-clause-last
returns-clause-last c =
    subst (λ o. IfSome o (λ (from : StepFrom). steps_to c.args.steps.now c.args.node ≡ steps_to (take (c.args.node - 1) c.args.steps.now) from.parent ++ step_of from.step ∷ [])) (sym c.copied.ensures)
    (last_there c.args.steps.now c.args.node c.in_ok-checked_sub.field-0 c.get.result c.in_ok-checked_sub.ensures.0 c.in_ok-checked_sub.ensures.1 c.get.ensures.lookup)

pub returns-clause-none : goal.returns-clause-none
returns-clause-none c =
    subst (λ o. IfNone o (steps_to c.args.steps.now c.args.node ≡ [])) (sym c.copied.ensures)
    (last_none c.args.steps.now c.args.node c.in_ok-checked_sub.field-0 c.get.result c.in_ok-checked_sub.ensures.0 c.in_ok-checked_sub.ensures.1 c.get.ensures.lookup)
