use Rattle.std.proofs.Common.{subst}
use Rattle.std.specs.List.{All}
use Rattle.std.proofs.lemmas.Bool.{OnTrue_at, OnTrue_from}
use Rattle.ix_selector.specs.Alike.{LookAtNoStep, StateLooksAtNoStep}
use Rattle.ix_selector.proofs.AlikeSteps.{seen-alike_steps}
use Rattle.ix_selector.proofs.residual.Residual.looks_at_no_step.Goals as goal

pub returns : goal.returns
returns c =
    let nodes = c.self.inside.nodes.now in
    OnTrue_from c.look_at_no_step.result (LookAtNoStep c.args.self.now)
    (λ e.
    let each = subst (All (StateLooksAtNoStep nodes)) c.as_slice.ensures (OnTrue_at e c.look_at_no_step.ensures) in
    subst LookAtNoStep c.self.view_is (seen-alike_steps nodes _ each))
