use Rattle.std.proofs.Common.{rules, ◌≡◌, true, false, refl, sym, ap, ◌∙◌, subst, arith, bytes_eq}
use Rattle.std.specs.Prelude.{Some, None, option_map}
use Rattle.ix_cbor.specs.Reading.{item_at, entries_at}
use Rattle.ix_sections.specs.Standing.{ValueIsAt}
use Rattle.ix_sections.proofs.HeaderParts.{key_is_read, value_is_read, value_found, value_passed, no_value}
use Rattle.ix_sections.proofs.reader.header.value_at.Goals as goal

pub loop-init : goal.loop-init
loop-init c = λ es h. (es, h.0, ap (λ n. entries_at (item_at 511) None n c.args.entries.now) (omega arith) ∙ h.1, refl)

pub returns-in_default : goal.returns-in_default
returns-in_default c = λ es h.
    let so_far = c.loop.invariant es h in
    absurd (key_is_read (option_map (λ k. k.now) c.loop.before) c.args.count c.loop.counter c.loop.rest.now so_far.0 so_far.1 _ c.loop-test.true so_far.2 c.in_default.ensures.1)

pub returns-then-eq : goal.returns-then-eq
returns-then-eq c = λ es h.
    let so_far = c.loop.invariant es h in
    let same : bytes_eq c.in-Ok.name.now c.args.key.now ≡ true = search rules in
    subst (ValueIsAt (Some c.in-Ok.value)) (sym so_far.3)
    (value_found (option_map (λ k. k.now) c.loop.before) c.args.count c.loop.counter c.loop.rest.now so_far.0 so_far.1 c.args.key.now (c.in-Ok.name.now, c.in-Ok.value.now) c.loop-test.true so_far.2 c.in-Ok.ensures c.in-Ok.value refl same)

pub returns-in_default-skip_item : goal.returns-in_default-skip_item
returns-in_default-skip_item c = λ es h.
    let so_far = c.loop.invariant es h in
    absurd (value_is_read (option_map (λ k. k.now) c.loop.before) c.args.count c.loop.counter c.loop.rest.now so_far.0 so_far.1 c.args.key.now (c.in-Ok.name.now, c.in-Ok.value.now) c.loop-test.true so_far.2 c.in-Ok.ensures _
    c.in_default-skip_item.ensures.1)

pub loop-preserved : goal.loop-preserved
loop-preserved c = λ es h.
    let so_far = c.loop.invariant es h in
    let other : bytes_eq c.in-Ok.name.now c.args.key.now ≡ false = search rules in
    let past = value_passed (option_map (λ k. k.now) c.loop.before) c.args.count c.loop.counter c.loop.rest.now so_far.0 so_far.1 c.args.key.now (c.in-Ok.name.now, c.in-Ok.value.now) c.loop-test.true so_far.2 c.in-Ok.ensures
    c.in-Ok-skip_item.next.now other c.in-Ok-skip_item.ensures in
    (past.0, so_far.1, past.1, so_far.3 ∙ past.2)

pub returns : goal.returns
returns c = λ es h.
    let so_far = c.loop.invariant es h in
    subst (ValueIsAt None) (sym (so_far.3 ∙ no_value (option_map (λ k. k.now) c.loop.before) c.args.count c.loop.counter c.loop.rest.now so_far.0 so_far.1 c.args.key.now c.loop-test.false so_far.2)) tt
