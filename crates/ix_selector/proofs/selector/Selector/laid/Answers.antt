use Rattle.std.proofs.Common.{rules, arith, ◌≡◌, ◌+◌, ◌∙◌, length, subst, sym}
use Rattle.std.specs.Global.{Vec}
use Rattle.ix_selector.specs.declared.selector_node.SelectorNode.{SelectorNode}
use Rattle.ix_selector.specs.Pattern.{IsSelector}
use Rattle.ix_selector.specs.Places.{at, places_of}
use Rattle.ix_selector.specs.Laid.{AreLaidFrom, IsTableOf}
use Rattle.ix_selector.specs.Behind.{inside_of}
use Rattle.ix_selector.proofs.selector.Selector.laid.Goals as goal

pub push_nodes-requires : goal.push_nodes-requires
push_nodes-requires c = record {
  ordered = c.requires.ordered;
  nodes = search rules;
  once = search rules;
}

pub invariant_of-result : goal.invariant_of-result
invariant_of-result c =
    let none : length c.new-nodes.result.items ≡ 0 = search rules in
    subst (λ (v : Vec SelectorNode). IsTableOf v.items c.in_ok-root.root) (sym c.in_ok-nodes.ensures.ok)
    (subst IsSelector (sym c.in_ok-root.ensures.place.1) c.requires.selector, record { placed = c.in_ok-root.ensures.grows.0.nodes; once = c.in_ok-root.ensures.grows.0.once; laid = subst (λ m. AreLaidFrom m c.push_nodes.new.nodes.items) none c.in_ok-root.ensures.grows.1 }, c.in_ok-root.ensures.last, c.in_ok-root.ensures.number ∙ (λ i. none i + inside_of (sym c.in_ok-root.ensures.place.1 i)) ∙ (let whole : 0 + inside_of (at (places_of c.push_nodes.new.nodes.items) c.in_ok-root.root) ≡ inside_of (at (places_of c.push_nodes.new.nodes.items) c.in_ok-root.root) = omega arith in whole))
