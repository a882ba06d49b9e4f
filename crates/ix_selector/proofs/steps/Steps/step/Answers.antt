use Rattle.std.proofs.Common.{sym, ◌∙◌, subst, [], Some}
use Rattle.std.specs.Prelude.{IfSome}
use Rattle.ix_selector.specs.Residual.{ResidualEnters, EntersAfter, IsAfter, step_of}
use Rattle.ix_selector.specs.Behind.{IsLeftAfter}
use Rattle.ix_selector.specs.Alike.{EachStepLeaves}
use Rattle.ix_selector.proofs.AlikeSteps.{each-leaves}
use Rattle.ix_selector.proofs.steps.Steps.step.Goals as goal

pub returns-in-Some-clause-tested : goal.returns-in-Some-clause-tested
returns-in-Some-clause-tested c =
    let from = c.self.inside.from in
    let t = step_of c.args.step.now in
    let leaves : EachStepLeaves from c.in-Some.each.value = subst (λ o. IfSome o (λ r. EachStepLeaves from r.value)) c.in-Some.is c.self.invariant in
    subst (λ p. IsAfter p t (Some c.in_ok-try_clone.field-0)) c.self.view_is
    (subst (λ r. IsAfter from t (Some r)) (sym (c.in_ok-try_clone.ensures.same ∙ c.deref.ensures)) (leaves.tested t))

pub invariant_of-self : goal.invariant_of-self
invariant_of-self c =
    let from = c.self.inside.from in
    let t = step_of c.args.step.now in
    let is = c.in-Some-next.is in
    let told = c.in_ok-next.ensures in
    subst (EachStepLeaves from) (sym (c.in_ok-new.ensures.ok ∙ c.in_ok-try_clone-2.ensures.same))
    (each-leaves from c.in-Some-next.left t c.if-looks_at_no_step.ensures
    (subst (λ o. IfSome o (λ r. ResidualEnters r [])) is told.entered)
    (subst (λ o. IfSome o (EntersAfter from t)) is told.below)
    (subst (IsAfter from t) is told.tested)
    (subst (λ o. IfSome o (IsLeftAfter from t)) is told.exact))
