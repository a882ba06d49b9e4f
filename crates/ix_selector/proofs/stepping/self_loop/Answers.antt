use Rattle.std.proofs.Common.{◌≡◌, get_or, ap, sym, subst, ◌∙◌}
use Rattle.ix_selector.specs.Reaching.{at_start, reenter_edges}
use Rattle.ix_selector.proofs.SelfLoops.{each-step}
use Rattle.ix_selector.proofs.stepping.self_loop.Goals as goal

pub returns : goal.returns
returns c =
    let nodes = c.args.nodes.now in
    let is = subst (λ y. y ≡ get_or nodes c.args.state.place y) c.in-All.is c.index-nodes-state.is in
    let edge_is = subst (λ y. y ≡ get_or nodes c.in-All.next y) c.in-Edge.is c.index-nodes-next.is in
    let own : c.in_ok-lower.lower.sequence ≡ c.args.state.place = c.if-lower-state.false in
    each-step nodes c.requires.0 c.args.state c.requires.1 c.in-All.next is edge_is c.in_ok-lower.lower
    (ap reenter_edges c.in_ok-state.was ∙ ap at_start (sym c.decremented.ensures ∙ c.in_ok-lower.was))
    own
