use Rattle.std.proofs.Common.{sym, subst, ap, ◌∙◌, [], Some}
use Rattle.ix_selector.specs.Residual.{step_of, ResidualEnters, EntersAfter, IsAfter}
use Rattle.ix_selector.proofs.Residues.{places-read, step-below, step-entered, step-none, step-tested, step-tested_none, nothing-left, something-left}
use Rattle.ix_selector.specs.States.{seen_states}
use Rattle.ix_selector.specs.Behind.{residual_after}
use Rattle.ix_selector.proofs.residual.Residual.step.Goals as goal

pub returns-then-is_empty-clause-none : goal.returns-then-is_empty-clause-none
returns-then-is_empty-clause-none c =
    step-none c.self.inside.nodes.now _ c.as_slice.result.now c.in_ok-states.states.items (step_of c.args.step.now) c.args.self.now c.self.view_is c.as_slice.ensures c.self.invariant.1.1 c.in_ok-states.ensures.states.0 c.in_ok-states.ensures.states.1 c.in_ok-states.ensures.enters (nothing-left c.in_ok-states.states.items (sym c.if-is_empty.ensures))

pub returns-then-is_empty-clause-tested : goal.returns-then-is_empty-clause-tested
returns-then-is_empty-clause-tested c =
    step-tested_none c.self.inside.nodes.now _ c.as_slice.result.now c.in_ok-states.states.items (step_of c.args.step.now) c.args.self.now c.self.view_is c.as_slice.ensures c.self.invariant.1.1 c.in_ok-states.ensures.states.0 c.in_ok-states.ensures.states.1 c.in_ok-states.ensures.enters (nothing-left c.in_ok-states.states.items (sym c.if-is_empty.ensures))

pub returns-clause-entered : goal.returns-clause-entered
returns-clause-entered c =
    subst (λ l. ResidualEnters (seen_states c.self.inside.nodes.now l) []) (sym c.in_ok-states-2.ensures)
    (step-entered c.self.inside.nodes.now _ c.as_slice.result.now c.in_ok-states.states.items (step_of c.args.step.now) c.args.self.now c.self.view_is c.as_slice.ensures c.self.invariant.1.1 c.in_ok-states.ensures.states.0 c.in_ok-states.ensures.states.1 c.in_ok-states.ensures.enters (something-left c.in_ok-states.states.items (sym c.if-is_empty.ensures)))

pub returns-clause-below : goal.returns-clause-below
returns-clause-below c =
    subst (λ l. EntersAfter c.args.self.now (step_of c.args.step.now) (seen_states c.self.inside.nodes.now l)) (sym c.in_ok-states-2.ensures)
    (step-below c.self.inside.nodes.now _ c.as_slice.result.now c.in_ok-states.states.items (step_of c.args.step.now) c.args.self.now c.self.view_is c.as_slice.ensures c.self.invariant.1.1 c.in_ok-states.ensures.states.0 c.in_ok-states.ensures.states.1 c.in_ok-states.ensures.enters)

pub returns-clause-tested : goal.returns-clause-tested
returns-clause-tested c =
    subst (λ l. IsAfter c.args.self.now (step_of c.args.step.now) (Some (seen_states c.self.inside.nodes.now l))) (sym c.in_ok-states-2.ensures)
    (step-tested c.self.inside.nodes.now _ c.as_slice.result.now c.in_ok-states.states.items (step_of c.args.step.now) c.args.self.now c.self.view_is c.as_slice.ensures c.self.invariant.1.1 c.in_ok-states.ensures.states.0 c.in_ok-states.ensures.states.1 c.in_ok-states.ensures.enters (something-left c.in_ok-states.states.items (sym c.if-is_empty.ensures)))

pub returns-then-is_empty-clause-stays_out : goal.returns-then-is_empty-clause-stays_out
returns-then-is_empty-clause-stays_out c =
    let nodes = c.self.inside.nodes.now in
    let t = step_of c.args.step.now in
    let from = places-read nodes _ c.as_slice.result.now c.args.self.now c.self.view_is c.as_slice.ensures in
    ap (λ l. residual_after l t) from ∙ sym c.in_ok-states.ensures.exact ∙ ap (seen_states nodes) (nothing-left c.in_ok-states.states.items (sym c.if-is_empty.ensures))

pub returns-clause-exact : goal.returns-clause-exact
returns-clause-exact c =
    let nodes = c.self.inside.nodes.now in
    let t = step_of c.args.step.now in
    let from = places-read nodes _ c.as_slice.result.now c.args.self.now c.self.view_is c.as_slice.ensures in
    ap (seen_states nodes) c.in_ok-states-2.ensures ∙ c.in_ok-states.ensures.exact ∙ ap (λ l. residual_after l t) (sym from)
