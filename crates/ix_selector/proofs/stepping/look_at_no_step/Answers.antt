use Rattle.std.proofs.Common.{subst}
use Rattle.std.specs.List.{All}
use Rattle.std.proofs.lemmas.List.{get_or_default, take_all}
use Rattle.std.proofs.lemmas.List.Elements.{All-get_or}
use Rattle.ix_selector.specs.States.{IsState}
use Rattle.ix_selector.specs.Alike.{StateLooksAtNoStep}
use Rattle.ix_selector.proofs.AlikeSteps.{state-more}
use Rattle.ix_selector.proofs.stepping.look_at_no_step.Goals as goal

pub loop-state-preserved : goal.loop-state-preserved
loop-state-preserved c =
    let i = c.loop-state.state-index in
    state-more c.args.nodes.now c.args.states.now i _ c.index-nodes-state.result c.requires.0.placed c.loop-state-test.true (get_or_default _ _ _ _ c.loop-state-test.true) (All-get_or (IsState c.args.nodes.now) c.args.states.now i _ c.loop-state-test.true c.requires.1).within c.index-nodes-state.is c.if-looks.ensures c.loop-state.invariant

pub returns : goal.returns
returns c = subst (All (StateLooksAtNoStep c.args.nodes.now)) (take_all c.loop-state.state-index c.args.states.now c.loop-state-test.false) c.loop-state.invariant
