use Rattle.std.proofs.Common.{rules, ◌≡◌, ◌∙◌, subst}
use Rattle.std.proofs.lemmas.Result.{err_from_is_err_and, IfOk-weaker, IfErr-weaker}
use Rattle.json.specs.Strict.{AreDistinct}
use Rattle.json.specs.Value.{members_view}
use Rattle.ix_selector_json.proofs.Sayings.{one_more_item, all_items, one_more_member, all_members, entries_keys, say_in_order, object_says}
use Rattle.ix_selector_json.proofs.Spelled.{one_more_fits, all_items_fit, array_fits, one_more_entry_fits, sorted_fit, object_fits}
use Rattle.ix_selector_json.proofs.Unread.{item_unread, member_unread, repeated_unread, object_unread}
use Rattle.ix_selector_json.proofs.read.+node_of.Goals as goal

pub node_of-returns-in_ok-members_of-in-Array-clause-fits : goal.node_of-returns-in_ok-members_of-in-Array-clause-fits
node_of-returns-in_ok-members_of-in-Array-clause-fits t c =
    array_fits c.args.value.now c.in-Array.members c.in_ok-members_of-in-Array.field-0 c.deref.result.now c.in-Array.is c.deref.ensures.value (search rules) c.in_ok-members_of-in-Array.ensures.fits

pub node_of-returns-in_ok-entries_of-in-Object-clause-says : goal.node_of-returns-in_ok-entries_of-in-Object-clause-says
node_of-returns-in_ok-entries_of-in-Object-clause-says t c =
    object_says c.args.value.now c.in-Object.members c.in_ok-entries_of-in-Object.field-0 c.deref-in-Object.result.now c.in-Object.is c.deref-in-Object.ensures.value c.in_ok-entries_of-in-Object.ensures.says

pub node_of-returns-in_ok-entries_of-in-Object-clause-fits : goal.node_of-returns-in_ok-entries_of-in-Object-clause-fits
node_of-returns-in_ok-entries_of-in-Object-clause-fits t c =
    object_fits c.args.value.now c.in-Object.members c.in_ok-entries_of-in-Object.field-0 c.deref-in-Object.result.now c.in-Object.is c.deref-in-Object.ensures.value (search rules) c.in_ok-entries_of-in-Object.ensures.fits

pub node_of-returns-in_err-entries_of-in-Object-clause-refused : goal.node_of-returns-in_err-entries_of-in-Object-clause-refused
node_of-returns-in_err-entries_of-in-Object-clause-refused t c =
    let p = err_from_is_err_and c.from_residual-in_err-entries_of-in-Object.result c.from_residual-in_err-entries_of-in-Object.ensures.1 in
    rw (p.1, p.2) (object_unread c.args.value.now c.in-Object.members c.deref-in-Object.result.now _ c.in-Object.is c.deref-in-Object.ensures.value c.in_err-entries_of-in-Object.ensures.refused)

pub members_of-returns-clause-says : goal.members_of-returns-clause-says
members_of-returns-clause-says t c = all_items c.args.values.now c.loop-value.value-index c.loop-value.members.items c.loop-value-test.false c.loop-value.invariant.says

pub members_of-returns-clause-fits : goal.members_of-returns-clause-fits
members_of-returns-clause-fits t c = λ integers. all_items_fit _ c.loop-value.members.items (c.loop-value.invariant.fits integers)

pub members_of-returns-in_err-node_of-clause-refused : goal.members_of-returns-in_err-node_of-clause-refused
members_of-returns-in_err-node_of-clause-refused t c =
    let p = err_from_is_err_and c.from_residual-in_err-node_of.result c.from_residual-in_err-node_of.ensures.1 in
    rw (p.1, p.2) (item_unread c.args.values.now c.loop-value.value-index c.value-item.result _ c.loop-value-test.true c.value-item.is c.in_err-node_of.ensures.refused)

pub entries_of-returns-clause-says : goal.entries_of-returns-clause-says
entries_of-returns-clause-says t c =
    let said = all_members c.args.values.now c.loop-name.name-index c.loop-name.entries.items c.loop-name-test.false c.loop-name.invariant.says in
    IfOk-weaker c.in_order.result _ _ (λ v order. say_in_order (members_view c.args.values.now) c.loop-name.entries.items v.items said order.same) c.in_order.ensures.sorted

pub entries_of-returns-clause-fits : goal.entries_of-returns-clause-fits
entries_of-returns-clause-fits t c =
    IfOk-weaker c.in_order.result _ _ (λ v order integers. sorted_fit _ c.loop-name.entries.items v.items order (c.loop-name.invariant.fits integers)) c.in_order.ensures.sorted

pub entries_of-returns-clause-refused : goal.entries_of-returns-clause-refused
entries_of-returns-clause-refused t c =
    let ms = members_view c.args.values.now in
    let said = all_members c.args.values.now c.loop-name.name-index c.loop-name.entries.items c.loop-name-test.false c.loop-name.invariant.says in
    IfErr-weaker c.in_order.result _ _ (λ e h. repeated_unread ms e h.0 (subst (λ ks. ¬ AreDistinct ks) (entries_keys ms c.loop-name.entries.items said) h.1)) c.in_order.ensures.refused

pub entries_of-returns-in_err-node-clause-refused : goal.entries_of-returns-in_err-node-clause-refused
entries_of-returns-in_err-node-clause-refused t c =
    let p = err_from_is_err_and c.from_residual-in_err-node.result c.from_residual-in_err-node.ensures.1 in
    rw (p.1, p.2) (member_unread c.args.values.now c.loop-name.name-index c.loop-name-item.result _ c.loop-name-test.true c.loop-name-item.is c.in_err-node.ensures.refused)

pub members_of-loop-value-preserved : goal.members_of-loop-value-preserved
members_of-loop-value-preserved t c = record {
  says = one_more_item c.args.values.now c.loop-value.value-index c.value-item.result c.loop-value.members.items c.push.new.self.items c.in_ok-node_of.field-0
      c.loop-value-test.true c.value-item.is c.in_ok-node_of.ensures.says c.in_ok-push.ensures.items c.loop-value.invariant.says;
  fits = one_more_fits c.args.values.now c.loop-value.value-index c.value-item.result c.loop-value.members.items c.push.new.self.items c.in_ok-node_of.field-0
      c.loop-value-test.true c.value-item.is c.in_ok-node_of.ensures.fits c.in_ok-push.ensures.items c.loop-value.invariant.fits;
}

pub entries_of-loop-name-preserved : goal.entries_of-loop-name-preserved
entries_of-loop-name-preserved t c =
    let key = c.in_ok-from_slice.field-0 in
    let entries = c.loop-name.entries.items in
    let values = c.args.values.now in
    let after = c.push.new.self.items in
    let named : key.items ≡ c.loop-name-item.result.0.now = c.in_ok-from_slice.ensures.items ∙ c.as_bytes.ensures.value in
    let pushed = c.in_ok-push.ensures.items in
    record {
      says = one_more_member values c.loop-name.name-index c.loop-name-item.result entries after key c.in_ok-node.node
          c.loop-name-test.true c.loop-name-item.is named c.in_ok-node.ensures.says pushed c.loop-name.invariant.says;
      fits = one_more_entry_fits values c.loop-name.name-index c.loop-name-item.result entries after key c.in_ok-node.node
          c.loop-name-test.true c.loop-name-item.is (search rules) c.in_ok-node.ensures.fits pushed c.loop-name.invariant.fits;
    }
