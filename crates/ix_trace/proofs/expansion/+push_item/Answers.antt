use Rattle.std.proofs.Common.{refl, ◌∙◌, ap, arith}
use Rattle.std.proofs.lemmas.Result.{IfOk-weaker}
use Rattle.ix_cbor.specs.Fronts.{own_of_front}
use Rattle.ix_selector.specs.declared.step.Step.TheVariants.{Key, Pos}
use Rattle.ix_trace.proofs.Found.{below_link, below_list, below_map, below_leaf, elements_of, entries_of, in_child, elements_begin, element_is, element_more, elements_end, entries_begin, entry_key, entry_value, entry_more, entries_end}
use Rattle.ix_trace.proofs.expansion.+push_item.Goals as goal

pub push_child-returns : goal.push_child-returns
push_child-returns t c =
    IfOk-weaker c.push_item.result _ _
    (λ rest finds. in_child c.args.from c.args.found.now (record { links = c.args.found.now.links; steps = c.push.new.self }) c.push_item.new.found c.args.at.now rest.now c.len-node.result c.in_ok-push.ensures.items refl (c.len-node.ensures ∙ c.push.new.self.ok.0) finds) c.push_item.ensures

pub push_elements-loop-index-init : goal.push_elements-loop-index-init
push_elements-loop-index-init t c = elements_begin c.args.elements.0.now c.args.elements.1 c.args.node c.args.found.now

pub push_elements-push_child-requires : goal.push_elements-push_child-requires
push_elements-push_child-requires t c =
    (omega arith, element_is c.args.elements.0.now c.args.elements.1 c.args.node c.args.found.now c.loop-index.found c.loop-index.index c.loop-index.at.now c.loop-index-test.true c.requires c.loop-index.invariant)

pub push_elements-loop-index-preserved : goal.push_elements-loop-index-preserved
push_elements-loop-index-preserved t c =
    element_more c.args.elements.0.now c.args.elements.1 c.args.node c.args.found.now c.loop-index.found c.push_child.new.found c.loop-index.index c.loop-index.at.now c.in_ok-at.at.now (record { parent = c.args.node; step = Pos c.loop-index.index }) c.loop-index-test.true refl refl c.loop-index.invariant c.in_ok-at.ensures

pub push_elements-returns : goal.push_elements-returns
push_elements-returns t c = λ ds r e. elements_end c.args.elements.0.now c.args.elements.1 c.args.node c.args.found.now c.loop-index.found c.loop-index.index c.loop-index.at.now ds r c.loop-index-test.false c.loop-index.invariant e

pub push_item-returns-in-Link : goal.push_item-returns-in-Link
push_item-returns-in-Link t c =
    below_link c.front_at.result.0 c.args.at.now c.front_at.result.1.now c.args.node c.args.found.now c.front_at.ensures.exact c.in-Link.cid.now (record { links = c.push.new.self; steps = c.args.found.now.steps }) _ (ap own_of_front c.in-Link.is) refl c.in_ok-push-in-Link.ensures.items refl c.of.ensures.same

pub push_item-push_elements-requires : goal.push_item-push_elements-requires
push_item-push_elements-requires t c = (omega arith, elements_of c.front_at.result.0 c.args.at.now c.front_at.result.1.now c.args.node c.args.found.now c.front_at.ensures.exact c.in-List.count (ap own_of_front c.in-List.is) c.requires)

pub push_item-returns-in-List : goal.push_item-returns-in-List
push_item-returns-in-List t c =
    IfOk-weaker c.push_elements.result _ _
    (λ rest finds. below_list c.front_at.result.0 c.args.at.now c.front_at.result.1.now c.args.node c.args.found.now c.front_at.ensures.exact c.in-List.count c.push_elements.new.found rest.now (ap own_of_front c.in-List.is) finds) c.push_elements.ensures

pub push_item-push_values-requires : goal.push_item-push_values-requires
push_item-push_values-requires t c = (omega arith, entries_of c.front_at.result.0 c.args.at.now c.front_at.result.1.now c.args.node c.args.found.now c.front_at.ensures.exact c.in-Map.count (ap own_of_front c.in-Map.is) c.requires)

pub push_item-returns-in-Map : goal.push_item-returns-in-Map
push_item-returns-in-Map t c =
    IfOk-weaker c.push_values.result _ _
    (λ rest finds. below_map c.front_at.result.0 c.args.at.now c.front_at.result.1.now c.args.node c.args.found.now c.front_at.ensures.exact c.in-Map.count c.push_values.new.found rest.now (ap own_of_front c.in-Map.is) finds) c.push_values.ensures

pub push_item-returns : goal.push_item-returns
push_item-returns t c = below_leaf c.front_at.result.0 c.args.at.now c.front_at.result.1.now c.args.node c.args.found.now c.front_at.ensures.exact c.in_default.not-List c.in_default.not-Map

pub push_values-loop-init : goal.push_values-loop-init
push_values-loop-init t c = entries_begin c.args.entries.0.now c.args.entries.1 c.args.node c.args.found.now

pub push_values-key_at-requires : goal.push_values-key_at-requires
push_values-key_at-requires t c = entry_key c.args.entries.0.now c.args.entries.1 c.args.node c.args.found.now c.loop.found c.loop.counter c.loop.at.now c.loop-test.true c.requires c.loop.invariant

pub push_values-push_child-requires : goal.push_values-push_child-requires
push_values-push_child-requires t c =
    (omega arith, entry_value c.args.entries.0.now c.args.entries.1 c.args.node c.args.found.now c.loop.found c.loop.counter c.loop.at.now c.key_at.result.0.now c.key_at.result.1.now c.loop-test.true c.requires c.loop.invariant c.key_at.ensures)

pub push_values-loop-preserved : goal.push_values-loop-preserved
push_values-loop-preserved t c =
    entry_more c.args.entries.0.now c.args.entries.1 c.args.node c.args.found.now c.loop.found c.push_child.new.found c.loop.counter c.loop.at.now c.key_at.result.0.now c.key_at.result.1.now c.in_ok-at.at.now (record { parent = c.args.node; step = Key c.key_at.result.0 }) c.loop-test.true refl refl c.loop.invariant c.key_at.ensures c.in_ok-at.ensures

pub push_values-returns : goal.push_values-returns
push_values-returns t c = λ es r e. entries_end c.args.entries.0.now c.args.entries.1 c.args.node c.args.found.now c.loop.found c.loop.counter c.loop.at.now es r c.loop-test.false c.loop.invariant e
