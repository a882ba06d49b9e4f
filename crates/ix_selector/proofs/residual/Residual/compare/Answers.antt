use Rattle.std.proofs.Common.{◌≡◌, map, ap, ◌∙◌}
use Rattle.ix_selector.specs.States.{place_of}
use Rattle.ix_selector.specs.Behind.{residual_order}
use Rattle.ix_selector.proofs.Same.{order-states}
use Rattle.ix_selector.proofs.residual.Residual.compare.Goals as goal

pub returns : goal.returns
returns c =
    let nodes = c.self.inside.nodes.now in
    let others = c.other.inside.nodes.now in
    let here : map (place_of nodes) c.as_slice.result.now ≡ c.args.self.now = ap (map (place_of nodes)) c.as_slice.ensures ∙ c.self.view_is in
    let there : map (place_of others) c.as_slice-2.result.now ≡ c.args.other.now = ap (map (place_of others)) c.as_slice-2.ensures ∙ c.other.view_is in
    c.cmp.ensures ∙ order-states nodes others c.as_slice.result.now c.as_slice-2.result.now ∙ (λ i. residual_order (here i) (there i))
