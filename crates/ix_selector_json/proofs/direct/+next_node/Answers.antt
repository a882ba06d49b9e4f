use Rattle.std.proofs.Common.{rules, arith, ◌≡◌, ◌∷◌, ◌∙◌, ap, length, Some, None}
use Rattle.std.proofs.lemmas.Result.{IfOk-weaker}
use Rattle.json.specs.Json.{read_key, after_end_array}
use Rattle.json.specs.Reads.{token_of}
use Rattle.ix_cbor.specs.declared.node.Node.{the_lemmas}
use Rattle.json.proofs.Grammar.{read_key-shorter, after_end_array-shorter}
use Rattle.ix_selector_json.proofs.Tokens.{no_item, next_item, last_item, no_member, next_member, last_member, array_says, object_says_next, null_says, truth_says, number_says, text_says}
use Rattle.ix_selector_json.proofs.direct.+next_node.Goals as goal

pub next_entries-loop-entries-init : goal.next_entries-loop-entries-init
next_entries-loop-entries-init t c = no_member c.args.depth c.args.reader.now c.new-entries.result.items c.new-entries.ensures.items

pub next_entries-loop-entries-smaller : goal.next_entries-loop-entries-smaller
next_entries-loop-entries-smaller t c =
    let key : read_key c.loop-entries.reader ≡ Some (Some c.in-Some.name.now, c.next_name.new.reader) = grind arith in
    let lesser = read_key-shorter c.loop-entries.reader (Some c.in-Some.name.now) c.next_name.new.reader key in
    omega (arith, c.in_ok-node.ensures.shorter)

pub next_entries-loop-entries-preserved : goal.next_entries-loop-entries-preserved
next_entries-loop-entries-preserved t c =
    let key : read_key c.loop-entries.reader ≡ Some (Some c.in-Some.name.now, c.next_name.new.reader) = grind arith in
    next_member c.args.depth c.args.reader.now c.loop-entries.reader c.next_name.new.reader c.next_node.new.reader c.loop-entries.entries.items c.push_tight.new.items.items c.in-Some.name.now c.in_ok-name-2.name c.in_ok-node.node
    key (search rules) c.in_ok-node.ensures.says c.in_ok-node.ensures.shorter c.in_ok-push_tight.ensures c.loop-entries.invariant

pub next_entries-returns : goal.next_entries-returns
next_entries-returns t c =
    let end : read_key c.loop-entries.reader ≡ Some (None, c.next_name.new.reader) = grind arith in
    IfOk-weaker c.in_order.result _ _ (λ v order. last_member c.args.depth c.args.reader.now c.loop-entries.reader c.next_name.new.reader c.loop-entries.entries.items c.shrink_to_fit.new.self.items v.items
    end c.shrink_to_fit.ensures.items c.loop-entries.invariant order) c.in_order.ensures.sorted

pub next_members-loop-alloc-init : goal.next_members-loop-alloc-init
next_members-loop-alloc-init t c = no_item c.args.depth c.args.reader.now c.new-members.result.items c.new-members.ensures.items

pub next_members-loop-alloc-smaller : goal.next_members-loop-alloc-smaller
next_members-loop-alloc-smaller t c =
    let going : (after_end_array c.loop-alloc.reader ≡ None) × (c.take_end_array.new.self ≡ c.loop-alloc.reader) = grind arith in
    let less = c.in_ok-node.ensures.shorter in
    omega (arith, ap length going.1)

pub next_members-loop-alloc-preserved : goal.next_members-loop-alloc-preserved
next_members-loop-alloc-preserved t c =
    let going : (after_end_array c.loop-alloc.reader ≡ None) × (c.take_end_array.new.self ≡ c.loop-alloc.reader) = grind arith in
    next_item c.args.depth c.args.reader.now c.loop-alloc.reader c.next_node.new.reader c.loop-alloc.members.items c.push_tight.new.items.items c.in_ok-node.node
    going.0 (rw (← going.1) c.in_ok-node.ensures.says) (rw (← going.1) c.in_ok-node.ensures.shorter) c.in_ok-push_tight.ensures c.loop-alloc.invariant

pub next_members-returns-clause-says : goal.next_members-returns-clause-says
next_members-returns-clause-says t c =
    last_item c.args.depth c.args.reader.now c.loop-alloc.reader c.take_end_array.new.self c.loop-alloc.members.items c.shrink_to_fit.new.self.items (grind arith) c.shrink_to_fit.ensures.items c.loop-alloc.invariant

pub next_members-returns-clause-shorter : goal.next_members-returns-clause-shorter
next_members-returns-clause-shorter t c =
    let end : after_end_array c.loop-alloc.reader ≡ Some c.take_end_array.new.self = grind arith in
    omega (arith, after_end_array-shorter c.loop-alloc.reader c.take_end_array.new.self end, c.loop-alloc.invariant.shorter)

pub next_node-returns-in-Some-Null-clause-says : goal.next_node-returns-in-Some-Null-clause-says
next_node-returns-in-Some-Null-clause-says t c =
    null_says c.args.depth c.args.reader.now c.next.new.self _ (c.in-Some-Null.ensures.value ∙ ap (λ k. token_of k ∷ c.next.new.self) c.in-Some-Null.field-0-is) (search (rules, the_lemmas))

pub next_node-returns-in-Some-Bool-clause-says : goal.next_node-returns-in-Some-Bool-clause-says
next_node-returns-in-Some-Bool-clause-says t c =
    truth_says c.args.depth c.args.reader.now c.next.new.self _ c.in-Some-Bool.truth (c.in-Some-Bool.ensures.value ∙ ap (λ k. token_of k ∷ c.next.new.self) c.in-Some-Bool.field-0-is) (search (rules, the_lemmas))

pub next_node-returns-in-Ok-clause-says : goal.next_node-returns-in-Ok-clause-says
next_node-returns-in-Ok-clause-says t c =
    number_says c.args.depth c.args.reader.now c.next.new.self _ c.in-Some-Number.digits.now (c.in-Some-Number.ensures.value ∙ ap (λ k. token_of k ∷ c.next.new.self) c.in-Some-Number.field-0-is) (search (rules, the_lemmas))

pub next_node-returns-in_ok-from_slice-in-Some-String-clause-says : goal.next_node-returns-in_ok-from_slice-in-Some-String-clause-says
next_node-returns-in_ok-from_slice-in-Some-String-clause-says t c =
    text_says c.args.depth c.args.reader.now c.next.new.self _ c.in-Some-String.text.now (c.in-Some-String.ensures.value ∙ ap (λ k. token_of k ∷ c.next.new.self) c.in-Some-String.field-0-is) (search (rules, the_lemmas))

pub next_node-returns-in_ok-next_members-in-Some-BeginArray-clause-says : goal.next_node-returns-in_ok-next_members-in-Some-BeginArray-clause-says
next_node-returns-in_ok-next_members-in-Some-BeginArray-clause-says t c =
    array_says c.args.depth c.args.reader.now c.next.new.self c.next_members.new.reader c.in_ok-next_members-in-Some-BeginArray.field-0 (omega arith)
    (c.in-Some-BeginArray.ensures.value ∙ ap (λ k. token_of k ∷ c.next.new.self) c.in-Some-BeginArray.field-0-is) c.in_ok-next_members-in-Some-BeginArray.ensures.says

pub next_node-returns-in_ok-next_entries-in-Some-BeginObject-clause-says : goal.next_node-returns-in_ok-next_entries-in-Some-BeginObject-clause-says
next_node-returns-in_ok-next_entries-in-Some-BeginObject-clause-says t c =
    object_says_next c.args.depth c.args.reader.now c.next.new.self c.next_entries.new.reader c.in_ok-next_entries-in-Some-BeginObject.field-0 (omega arith)
    (c.in-Some-BeginObject.ensures.value ∙ ap (λ k. token_of k ∷ c.next.new.self) c.in-Some-BeginObject.field-0-is) c.in_ok-next_entries-in-Some-BeginObject.ensures

pub next_node-returns-in_ok-next_entries-in-Some-BeginObject-clause-shorter : goal.next_node-returns-in_ok-next_entries-in-Some-BeginObject-clause-shorter
next_node-returns-in_ok-next_entries-in-Some-BeginObject-clause-shorter t c =
    omega (arith, c.in_ok-next_entries-in-Some-BeginObject.ensures.shorter, ap length c.in-Some-BeginObject.ensures.value)
