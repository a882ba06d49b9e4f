use Rattle.std.proofs.Common.{rules, ◌≡◌, sym, ap, ◌∙◌, subst}
use Rattle.std.specs.Prelude.{IfErr}
use Rattle.std.proofs.lemmas.Result.{err_from_is_err_and}
use Rattle.ix_cbor.specs.Data.{data_of, map, node_entries}
use Rattle.ix_cbor.proofs.Fitting.{data_of-map}
use Rattle.ix_selector_json.specs.Printed.{HasBadText, HasOtherKind, IsUnprinted}
use Rattle.ix_selector_json.proofs.Pushed.{map-pushed}
use Rattle.ix_selector_json.proofs.Refusals.{member_unprinted, key_unprinted, value_unprinted}
use Rattle.ix_selector_json.proofs.print.+push_node.Goals as goal

pub push_node-returns-in_ok-begin_object-in-Map-clause-pushes : goal.push_node-returns-in_ok-begin_object-in-Map-clause-pushes
push_node-returns-in_ok-begin_object-in-Map-clause-pushes t c = (
  map-pushed c.push_entries.result c.args.node.now c.in-Map.entries c.deref-in-Map.result.now c.args.out.now.tokens c.begin_object.new.self.tokens c.push_entries.new.out.tokens
      c.in-Map.is c.deref-in-Map.ensures.value (search rules) c.push_entries.ensures.pushes.0,
  search rules,
)

pub push_node-returns-in_ok-begin_object-in-Map-clause-refused : goal.push_node-returns-in_ok-begin_object-in-Map-clause-refused
push_node-returns-in_ok-begin_object-in-Map-clause-refused t c =
    let same : map (node_entries c.deref-in-Map.result.now) ≡ data_of c.args.node.now =
    ap (λ m. map (node_entries m)) c.deref-in-Map.ensures.value ∙ sym (data_of-map c.in-Map.entries) ∙ ap data_of (sym c.in-Map.is) in
    subst (λ d. IfErr c.push_entries.result (IsUnprinted (HasBadText d) (HasOtherKind d))) same c.push_entries.ensures.refused

pub push_members-returns-in_err-push_node-clause-refused : goal.push_members-returns-in_err-push_node-clause-refused
push_members-returns-in_err-push_node-clause-refused t c =
    let p = err_from_is_err_and c.from_residual.result c.from_residual.ensures.1 in
    rw (p.1, p.2) (member_unprinted c.args.members.now c.loop-member.member-index c.member-item.result _ c.loop-member-test.true c.member-item.is c.in_err-push_node.ensures.refused)

pub push_entries-returns-in_err-name_of-clause-refused : goal.push_entries-returns-in_err-name_of-clause-refused
push_entries-returns-in_err-name_of-clause-refused t c =
    let p = err_from_is_err_and c.from_residual.result c.from_residual.ensures.1 in
    rw (p.1, p.2)
    (key_unprinted c.args.entries.now c.loop-key.key-index c.loop-key-item.result c.as_slice.result.now _ c.loop-key-test.true c.loop-key-item.is c.as_slice.ensures.value c.in_err-name_of.ensures.refused)

pub push_entries-returns-in_err-push_node-clause-refused : goal.push_entries-returns-in_err-push_node-clause-refused
push_entries-returns-in_err-push_node-clause-refused t c =
    let p = err_from_is_err_and c.from_residual-in_err-push_node.result c.from_residual-in_err-push_node.ensures.1 in
    rw (p.1, p.2) (value_unprinted c.args.entries.now c.loop-key.key-index c.loop-key-item.result _ c.loop-key-test.true c.loop-key-item.is c.in_err-push_node.ensures.refused)
