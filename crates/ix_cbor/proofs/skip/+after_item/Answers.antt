use Rattle.std.proofs.Common.{rules, subst, sym}
use Rattle.std.specs.Prelude.{None, option_map}
use Rattle.std.proofs.lemmas.Result.{err_from_is_err_and}
use Rattle.ix_cbor.specs.Reading.{◌>>=◌, item_at, items_at, entries_at}
use Rattle.ix_cbor.specs.Fronts.{behind}
use Rattle.ix_cbor.specs.Answered.{Reads}
use Rattle.ix_cbor.proofs.Fronts.{item_at-zero, item_at-above}
use Rattle.ix_cbor.proofs.Skips.{item_over, entry_over, key_stops, value_stops}
use Rattle.ix_cbor.proofs.skip.+after_item.Goals as goal

pub after_item-returns-then-levels-eq0 : goal.after_item-returns-then-levels-eq0
after_item-returns-then-levels-eq0 t c =
    subst (λ m. Reads (λ r. r.now) c.after_leaf.result (m >>= behind)) (sym (item_at-zero c.args.levels c.args.bytes.now c.if-levels-eq0.true)) c.after_leaf.ensures

pub after_item-returns-else-levels-eq0 : goal.after_item-returns-else-levels-eq0
after_item-returns-else-levels-eq0 t c =
    subst (λ m. Reads (λ r. r.now) c.after_branch.result (m >>= behind)) (sym (item_at-above c.args.levels c.args.bytes.now (search rules))) c.after_branch.ensures

pub after_items-loop-preserved : goal.after_items-loop-preserved
after_items-loop-preserved t c =
    item_over (item_at c.args.levels) c.args.count c.loop.counter c.loop.rest.now c.in_ok-rest.rest.now (items_at (item_at c.args.levels) c.args.count c.args.bytes.now >>= behind) c.loop-test.true c.in_ok-rest.ensures c.loop.invariant

pub after_entries-returns-in_err-name : goal.after_entries-returns-in_err-name
after_entries-returns-in_err-name t c =
    let p = err_from_is_err_and c.from_residual.result c.from_residual.ensures.1 in
    rw (p.1, p.2)
    (key_stops (item_at c.args.levels) (option_map (λ k. k.now) c.loop.before) c.args.count c.loop.counter c.loop.rest.now (entries_at (item_at c.args.levels) None c.args.count c.args.bytes.now >>= behind) _ c.loop-test.true c.in_err-name.ensures c.loop.invariant)

pub after_entries-returns-in_err-rest : goal.after_entries-returns-in_err-rest
after_entries-returns-in_err-rest t c =
    let p = err_from_is_err_and c.from_residual-in_err-rest.result c.from_residual-in_err-rest.ensures.1 in
    rw (p.1, p.2)
    (value_stops (item_at c.args.levels) (option_map (λ k. k.now) c.loop.before) c.args.count c.loop.counter c.loop.rest.now (entries_at (item_at c.args.levels) None c.args.count c.args.bytes.now >>= behind)
    c.in_ok-name.name.now c.in_ok-name.value.now _ c.loop-test.true c.in_ok-name.ensures c.in_err-rest.ensures c.loop.invariant)

pub after_entries-loop-preserved : goal.after_entries-loop-preserved
after_entries-loop-preserved t c =
    entry_over (item_at c.args.levels) (option_map (λ k. k.now) c.loop.before) c.args.count c.loop.counter c.loop.rest.now (entries_at (item_at c.args.levels) None c.args.count c.args.bytes.now >>= behind)
    c.in_ok-name.name.now c.in_ok-name.value.now c.in_ok-rest.rest.now c.loop-test.true c.in_ok-name.ensures c.in_ok-rest.ensures c.loop.invariant
