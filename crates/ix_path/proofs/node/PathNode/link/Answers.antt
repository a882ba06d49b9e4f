use Rattle.std.proofs.Common.{◌∙◌, ap}
use Rattle.std.specs.Prelude.{Some, Ok}
use Rattle.ix_cbor.specs.declared.front.Front.{Front}
use Rattle.ix_cbor.specs.Fronts.{own_of_front}
use Rattle.ix_path.proofs.Nodes.{link_is, no_link, self_spelled}
use Rattle.ix_path.proofs.node.PathNode.link.Goals as goal

pub returns-in-Link : goal.returns-in-Link
returns-in-Link c =
    let spelled = self_spelled c.self.inside.is_raw c.self.inside.bytes.now c.args.self.now c.if-self.false c.self.invariant c.self.view_is in
    ap Some c.of.ensures.same ∙ link_is c.self.inside.bytes.now c.front_at.result.1.now c.args.self.now spelled c.in-Link.cid (c.front_at.ensures.exact ∙ ap (λ (f : Front). Ok (own_of_front f, c.front_at.result.1.now)) c.in-Link.is)

pub returns-in_default : goal.returns-in_default
returns-in_default c =
    let spelled = self_spelled c.self.inside.is_raw c.self.inside.bytes.now c.args.self.now c.if-self.false c.self.invariant c.self.view_is in
    no_link c.self.inside.bytes.now c.front_at.result.1.now c.args.self.now spelled c.front_at.result.0 c.in_default.not-Link c.front_at.ensures.exact
