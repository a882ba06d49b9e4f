use Rattle.std.proofs.Common.{rules, ◌≡◌, ◌+◌, ◌<◌, ◌++◌, ◌∷◌, [], length, map, take, ap, sym, ◌∙◌, subst, arith}
use Rattle.std.proofs.lemmas.List.{take_all}
use Rattle.ix_selector.specs.declared.sel.Sel.TheFolds.{the_lemmas}
use Rattle.ix_selector.specs.Pattern.{pattern_of, fields, fields_of}
use Rattle.ix_selector.specs.Ordered.{IsOrdered, AreOrdered}
use Rattle.ix_selector.specs.Places.{at, places_of}
use Rattle.ix_selector.specs.Views.{seen_field}
use Rattle.ix_selector.proofs.Views.{pattern_of-fields}
use Rattle.ix_selector.proofs.Nodes.{length-grows}
use Rattle.ix_selector.proofs.Putting.{FieldsPut, MembersPut, fields-more, members-more, field-ordered, member-ordered, rising-put, none-grown, one-grown, fields-grown, members-grown, last-put}
use Rattle.ix_selector.specs.Behind.{inside_of}
use Rattle.ix_selector.specs.Laid.{GrowsInOrder}
use Rattle.ix_selector.proofs.Laid.{row-inside}
use Rattle.ix_selector.proofs.selector_node.+nodes.Goals as goal

pub push_fields-push_nodes-requires : goal.push_fields-push_nodes-requires
push_fields-push_nodes-requires t c = (
  search (rules, the_lemmas),
  record {
    ordered = subst (λ f. IsOrdered (pattern_of f.1)) (sym c.loop-name-item.is) (field-ordered c.args.fields.now c.loop-name.name-index c.loop-name-item.result c.requires.ordered c.loop-name-test.true);
    nodes = c.loop-name.invariant.grows.nodes;
    once = c.loop-name.invariant.grows.once;
  },
)

pub push_fields-loop-name-preserved : goal.push_fields-loop-name-preserved
push_fields-loop-name-preserved t c =
    let same : c.in_ok-from_slice.field-0.items ≡ c.loop-name-item.result.0.items = search rules in
    let there : at (places_of c.push_nodes.new.nodes.items) c.in_ok-number.number ≡ pattern_of c.loop-name-item.result.1 = search rules in
    subst (λ l. FieldsPut c.args.nodes.now.items c.push_nodes.new.nodes.items l (take (c.loop-name.name-index + 1) c.args.fields.now)) (sym c.in_ok-push.ensures.items)
    (fields-more c.args.nodes.now.items c.loop-name.nodes.items c.push_nodes.new.nodes.items c.loop-name.names.items c.args.fields.now c.loop-name.name-index c.loop-name-item.result c.in_ok-from_slice.field-0 c.in_ok-number.number
    c.loop-name-test.true c.loop-name-item.is same c.loop-name.invariant c.in_ok-number.ensures.grows.0 c.in_ok-number.ensures.place.0 c.in_ok-number.ensures.behind c.in_ok-number.ensures.last there c.in_ok-number.ensures.number c.in_ok-number.ensures.grows.1)

pub push_fields-returns-clause-named : goal.push_fields-returns-clause-named
push_fields-returns-clause-named t c =
    let named = c.loop-name.invariant.named ∙ ap (map seen_field) (take_all c.loop-name.name-index c.args.fields.now c.loop-name-test.false) in
    (c.loop-name.invariant.below, rising-put (places_of c.loop-name.nodes.items) c.loop-name.names.items c.args.fields.now named c.requires.ordered, named)

pub push_fields-returns-clause-grown : goal.push_fields-returns-clause-grown
push_fields-returns-clause-grown t c = fields-grown c.args.nodes.now c.loop-name.nodes c.loop-name.names.items _ c.loop-name.invariant

pub push_members-push_nodes-requires : goal.push_members-push_nodes-requires
push_members-push_nodes-requires t c = (
  search (rules, the_lemmas),
  record {
    ordered = subst (λ s. IsOrdered (pattern_of s)) (sym c.sel-item.is) (member-ordered c.args.members.now c.loop-sel.sel-index c.sel-item.result c.requires.ordered c.loop-sel-test.true);
    nodes = c.loop-sel.invariant.grows.nodes;
    once = c.loop-sel.invariant.grows.once;
  },
)

pub push_members-loop-sel-preserved : goal.push_members-loop-sel-preserved
push_members-loop-sel-preserved t c =
    subst (λ l. MembersPut c.args.nodes.now.items c.push_nodes.new.nodes.items l (take (c.loop-sel.sel-index + 1) c.args.members.now)) (sym c.in_ok-push.ensures.items)
    (members-more c.args.nodes.now.items c.loop-sel.nodes.items c.push_nodes.new.nodes.items c.loop-sel.numbers.items c.args.members.now c.loop-sel.sel-index c.sel-item.result c.in_ok-push_nodes.field-0
    c.loop-sel-test.true c.sel-item.is c.loop-sel.invariant c.in_ok-push_nodes.ensures.grows.0 c.in_ok-push_nodes.ensures.place.0 c.in_ok-push_nodes.ensures.behind c.in_ok-push_nodes.ensures.last c.in_ok-push_nodes.ensures.place.1 c.in_ok-push_nodes.ensures.number c.in_ok-push_nodes.ensures.grows.1)

pub push_nodes-returns-clause-grows : goal.push_nodes-returns-clause-grows
push_nodes-returns-clause-grows t c =
    let put = last-put c.args.nodes.now c.node_of.new.nodes c.in_ok-node.node (pattern_of c.args.sel.now) c.in_ok-node.ensures.node c.in_ok-node.ensures.grown in
    subst (GrowsInOrder c.args.nodes.now.items) (sym c.in_ok-push.ensures.items) put.0

pub push_nodes-returns-clause-place : goal.push_nodes-returns-clause-place
push_nodes-returns-clause-place t c =
    let put = last-put c.args.nodes.now c.node_of.new.nodes c.in_ok-node.node (pattern_of c.args.sel.now) c.in_ok-node.ensures.node c.in_ok-node.ensures.grown in
    let number : c.len-number.result ≡ length c.node_of.new.nodes.items = search rules in
    subst (λ l. (c.len-number.result < length l) × (at (places_of l) c.len-number.result ≡ pattern_of c.args.sel.now)) (sym c.in_ok-push.ensures.items)
    (subst (λ n. (n < length (c.node_of.new.nodes.items ++ c.in_ok-node.node ∷ [])) × (at (places_of (c.node_of.new.nodes.items ++ c.in_ok-node.node ∷ [])) n ≡ pattern_of c.args.sel.now)) (sym number) (put.1, put.2))

pub push_members-returns-clause-grown : goal.push_members-returns-clause-grown
push_members-returns-clause-grown t c = members-grown c.args.nodes.now c.loop-sel.nodes c.loop-sel.numbers.items _ c.loop-sel.invariant

pub node_of-push_fields-requires : goal.node_of-push_fields-requires
node_of-push_fields-requires t c =
    let is = ap pattern_of c.in-Fields.is ∙ pattern_of-fields c.in-Fields.fields in (
      search (rules, the_lemmas),
      record {
        ordered = subst (λ l. AreOrdered (fields_of (map seen_field l))) (sym c.deref-in-Fields.ensures.value) (subst IsOrdered is c.requires.ordered);
        nodes = c.requires.nodes;
        once = c.requires.once;
      },
    )

pub node_of-returns-in_ok-push_fields-in-Fields-clause-node : goal.node_of-returns-in_ok-push_fields-in-Fields-clause-node
node_of-returns-in_ok-push_fields-in-Fields-clause-node t c =
    let is = ap pattern_of c.in-Fields.is ∙ pattern_of-fields c.in-Fields.fields in
    let named = c.in_ok-push_fields-in-Fields.ensures.named in
    ((named.0, named.1), ap (λ l. fields (fields_of l)) (named.2 ∙ ap (map seen_field) c.deref-in-Fields.ensures.value) ∙ sym is)

pub push_nodes-returns-clause-last : goal.push_nodes-returns-clause-last
push_nodes-returns-clause-last t c = search rules

pub push_nodes-returns-clause-behind : goal.push_nodes-returns-clause-behind
push_nodes-returns-clause-behind t c =
    let number : c.len-number.result ≡ length c.node_of.new.nodes.items = search rules in
    let more = length-grows c.args.nodes.now.items c.node_of.new.nodes.items c.in_ok-node.ensures.grown.grows.0 in
    omega arith

pub node_of-returns-in_ok-push_nodes-in-All-clause-grown : goal.node_of-returns-in_ok-push_nodes-in-All-clause-grown
node_of-returns-in_ok-push_nodes-in-All-clause-grown t c =
    let put = c.in_ok-push_nodes-in-All.ensures in
    one-grown c.args.nodes.now c.push_nodes.new.nodes _ c.in_ok-push_nodes-in-All.field-0 put.grows put.place.1 put.last put.behind put.number

pub node_of-returns-in_ok-push_nodes-in-Index-clause-grown : goal.node_of-returns-in_ok-push_nodes-in-Index-clause-grown
node_of-returns-in_ok-push_nodes-in-Index-clause-grown t c =
    let put = c.in_ok-push_nodes-in-Index.ensures in
    one-grown c.args.nodes.now c.push_nodes-in-Index.new.nodes _ c.in_ok-push_nodes-in-Index.field-0 put.grows put.place.1 put.last put.behind put.number

pub node_of-returns-in_ok-push_nodes-in-Range-clause-grown : goal.node_of-returns-in_ok-push_nodes-in-Range-clause-grown
node_of-returns-in_ok-push_nodes-in-Range-clause-grown t c =
    let put = c.in_ok-push_nodes-in-Range.ensures in
    one-grown c.args.nodes.now c.push_nodes-in-Range.new.nodes _ c.in_ok-push_nodes-in-Range.field-0 put.grows put.place.1 put.last put.behind put.number

pub node_of-returns-in_ok-push_nodes-in-Recursive-clause-grown : goal.node_of-returns-in_ok-push_nodes-in-Recursive-clause-grown
node_of-returns-in_ok-push_nodes-in-Recursive-clause-grown t c =
    let put = c.in_ok-push_nodes-in-Recursive.ensures in
    one-grown c.args.nodes.now c.push_nodes-in-Recursive.new.nodes _ c.in_ok-push_nodes-in-Recursive.field-0 put.grows put.place.1 put.last put.behind put.number

pub node_of-push_nodes-requires : goal.node_of-push_nodes-requires
node_of-push_nodes-requires t c = search (rules, the_lemmas)

pub node_of-push_nodes-requires-in-Index : goal.node_of-push_nodes-requires-in-Index
node_of-push_nodes-requires-in-Index t c = search (rules, the_lemmas)

pub node_of-push_nodes-requires-in-Range : goal.node_of-push_nodes-requires-in-Range
node_of-push_nodes-requires-in-Range t c = search (rules, the_lemmas)

pub node_of-push_nodes-requires-in-Recursive : goal.node_of-push_nodes-requires-in-Recursive
node_of-push_nodes-requires-in-Recursive t c = search (rules, the_lemmas)

pub node_of-push_members-requires : goal.node_of-push_members-requires
node_of-push_members-requires t c = search (rules, the_lemmas)

pub node_of-returns-in-Matcher-clause-grown : goal.node_of-returns-in-Matcher-clause-grown
node_of-returns-in-Matcher-clause-grown t c = none-grown c.args.nodes.now (pattern_of c.args.sel.now) c.requires

pub node_of-returns-in-Matcher-clause-node : goal.node_of-returns-in-Matcher-clause-node
node_of-returns-in-Matcher-clause-node t c = search (rules, the_lemmas)

pub node_of-returns-in_ok-push_nodes-in-All-clause-node : goal.node_of-returns-in_ok-push_nodes-in-All-clause-node
node_of-returns-in_ok-push_nodes-in-All-clause-node t c = search (rules, the_lemmas)

pub node_of-returns-in_ok-push_nodes-in-Index-clause-node : goal.node_of-returns-in_ok-push_nodes-in-Index-clause-node
node_of-returns-in_ok-push_nodes-in-Index-clause-node t c = search (rules, the_lemmas)

pub node_of-returns-in_ok-push_nodes-in-Range-clause-node : goal.node_of-returns-in_ok-push_nodes-in-Range-clause-node
node_of-returns-in_ok-push_nodes-in-Range-clause-node t c = search (rules, the_lemmas)

pub node_of-returns-in_ok-push_nodes-in-Recursive-clause-node : goal.node_of-returns-in_ok-push_nodes-in-Recursive-clause-node
node_of-returns-in_ok-push_nodes-in-Recursive-clause-node t c = search (rules, the_lemmas)

pub node_of-returns-in_ok-push_members-in-Union-clause-node : goal.node_of-returns-in_ok-push_members-in-Union-clause-node
node_of-returns-in_ok-push_members-in-Union-clause-node t c = search (rules, the_lemmas)

pub node_of-returns-in-Edge-clause-grown : goal.node_of-returns-in-Edge-clause-grown
node_of-returns-in-Edge-clause-grown t c = none-grown c.args.nodes.now (pattern_of c.args.sel.now) c.requires

pub node_of-returns-in-Edge-clause-node : goal.node_of-returns-in-Edge-clause-node
node_of-returns-in-Edge-clause-node t c = search (rules, the_lemmas)

pub push_nodes-returns-clause-number : goal.push_nodes-returns-clause-number
push_nodes-returns-clause-number t c =
    let number : c.len-number.result ≡ length c.node_of.new.nodes.items = search rules in
    number
    ∙ sym (row-inside (places_of c.node_of.new.nodes.items) (length c.args.nodes.now.items) c.in_ok-node.node (length c.node_of.new.nodes.items) c.in_ok-node.ensures.grown.row)
    ∙ ap (λ s. length c.args.nodes.now.items + inside_of s) c.in_ok-node.ensures.node.1
