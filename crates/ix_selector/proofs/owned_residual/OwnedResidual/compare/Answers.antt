use Rattle.std.proofs.Common.{◌≡◌, map, ap, ◌∙◌}
use Rattle.std.specs.Arc.{arc_value}
use Rattle.ix_selector.specs.States.{place_of}
use Rattle.ix_selector.specs.Behind.{residual_order}
use Rattle.ix_selector.proofs.Same.{order-states}
use Rattle.ix_selector.proofs.owned_residual.OwnedResidual.compare.Goals as goal

pub returns : goal.returns
returns c =
    let nodes = (arc_value c.self.inside.nodes).items in
    let others = (arc_value c.other.inside.nodes).items in
    let here : map (place_of nodes) c.as_slice.result.now ≡ c.args.self.now = ap (map (place_of nodes)) c.as_slice.ensures ∙ c.self.view_is in
    let there : map (place_of others) c.as_slice-2.result.now ≡ c.args.other.now = ap (map (place_of others)) c.as_slice-2.ensures ∙ c.other.view_is in
    c.cmp.ensures ∙ order-states nodes others c.as_slice.result.now c.as_slice-2.result.now ∙ (λ i. residual_order (here i) (there i))
