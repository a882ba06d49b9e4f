use Rattle.std.proofs.Common.{rules, ◌≡◌, map, ◌++◌, ◌∷◌, [], subst, sym, ◌∙◌, ap, List, ℕ}
use Rattle.std.specs.Prelude.{None, option_map}
use Rattle.std.proofs.lemmas.Result.{err_from_is_err_and}
use Rattle.std.proofs.lemmas.List.{map_push}
use Rattle.ix_cbor.specs.Data.{data_of, entry_of}
use Rattle.ix_cbor.specs.Reading.{item_at, items_at, entries_at}
use Rattle.ix_cbor.specs.Answered.{ReadsOrRunsOut}
use Rattle.ix_cbor.proofs.Fronts.{item_at-zero, item_at-above, goes_on, stops, is_done, FailsAs-along, FailsAs-exactly}
use Rattle.ix_cbor.proofs.EntryFronts as entries
use Rattle.ix_cbor.proofs.Members.{map_read}
use Rattle.ix_cbor.proofs.read.+item.Goals as goal

pub item-returns-then-levels-eq0 : goal.item-returns-then-levels-eq0
item-returns-then-levels-eq0 t c =
    subst (λ m. ReadsOrRunsOut (λ r. (data_of r.0, r.1.now)) c.leaf.result m) (sym (item_at-zero c.args.levels c.args.bytes.now c.if-levels-eq0.true)) c.leaf.ensures

pub item-returns-else-levels-eq0 : goal.item-returns-else-levels-eq0
item-returns-else-levels-eq0 t c =
    subst (λ m. ReadsOrRunsOut (λ r. (data_of r.0, r.1.now)) c.branch-alloc.result m) (sym (item_at-above c.args.levels c.args.bytes.now (search rules))) c.branch-alloc.ensures

pub items-returns-in_err-node : goal.items-returns-in_err-node
items-returns-in_err-node t c =
    let p = err_from_is_err_and c.from_residual-in_err-node.result c.from_residual-in_err-node.ensures.1 in
    rw (p.1, p.2)
    (FailsAs-along c.in_err-node.field-0.0.kind c.in_err-node.field-0.0.left (item_at c.args.levels c.loop.rest.now) (items_at (item_at c.args.levels) c.args.count c.args.bytes.now)
    (stops (map data_of c.loop.members.items) (item_at c.args.levels) c.args.count c.loop.counter c.loop.rest.now (items_at (item_at c.args.levels) c.args.count c.args.bytes.now) c.loop-test.true c.loop.invariant) c.in_err-node.ensures)

pub items-loop-preserved : goal.items-loop-preserved
items-loop-preserved t c =
    let n = c.in_ok-node.node in
    let e : map data_of c.push.new.self.items ≡ map data_of c.loop.members.items ++ data_of n ∷ [] = rw c.in_ok-push.ensures.items (map_push _ c.loop.members.items n) in
    rw e (goes_on (map data_of c.loop.members.items) (item_at c.args.levels) c.args.count c.loop.counter c.loop.rest.now c.in_ok-node.next.now (data_of n) (items_at (item_at c.args.levels) c.args.count c.args.bytes.now) c.loop-test.true c.in_ok-node.ensures c.loop.invariant)

pub items-returns : goal.items-returns
items-returns t c =
    let e : c.shrink_to_fit.new.self.items ≡ c.loop.members.items = search rules in
    rw e (is_done (map data_of c.loop.members.items) (item_at c.args.levels) c.args.count c.loop.counter c.loop.rest.now (items_at (item_at c.args.levels) c.args.count c.args.bytes.now) c.loop-test.false c.loop.invariant)

pub entries-returns-in_err-name : goal.entries-returns-in_err-name
entries-returns-in_err-name t c =
    let p = err_from_is_err_and c.from_residual-in_err-name.result c.from_residual-in_err-name.ensures.1 in
    rw (p.1, p.2)
    (FailsAs-exactly c.in_err-name.field-0.0.kind c.in_err-name.field-0.0.left (entries_at (item_at c.args.levels) None c.args.count c.args.bytes.now)
    (entries.stops_at_key (map entry_of c.loop.members.items) (item_at c.args.levels) (option_map (λ k. k.now) c.loop.before) c.args.count c.loop.counter c.loop.rest.now (entries_at (item_at c.args.levels) None c.args.count c.args.bytes.now) c.loop-test.true c.loop.invariant _ c.in_err-name.ensures))

pub entries-returns-in_err-node : goal.entries-returns-in_err-node
entries-returns-in_err-node t c =
    let p = err_from_is_err_and c.from_residual-in_err-node.result c.from_residual-in_err-node.ensures.1 in
    rw (p.1, p.2)
    (FailsAs-along c.in_err-node.field-0.0.kind c.in_err-node.field-0.0.left (item_at c.args.levels c.in_ok-name.value.now) (entries_at (item_at c.args.levels) None c.args.count c.args.bytes.now)
    (entries.stops_at_value (map entry_of c.loop.members.items) (item_at c.args.levels) (option_map (λ k. k.now) c.loop.before) c.args.count c.loop.counter c.loop.rest.now (entries_at (item_at c.args.levels) None c.args.count c.args.bytes.now)
    c.in_ok-name.name.now c.in_ok-name.value.now c.loop-test.true c.loop.invariant c.in_ok-name.ensures) c.in_err-node.ensures)

pub entries-loop-preserved : goal.entries-loop-preserved
entries-loop-preserved t c =
    let n = c.in_ok-node.node in
    let k = c.in_ok-name.name.now in
    let e : map entry_of c.push.new.self.items ≡ map entry_of c.loop.members.items ++ (k, data_of n) ∷ [] = rw c.in_ok-push.ensures.items (map_push _ c.loop.members.items (c.in_ok-from_slice.field-0, n) ∙ ap (λ (l : List ℕ). map entry_of c.loop.members.items ++ (l, data_of n) ∷ []) c.in_ok-from_slice.ensures.items) in
    rw e (entries.goes_on (map entry_of c.loop.members.items) (item_at c.args.levels) (option_map (λ k. k.now) c.loop.before) c.args.count c.loop.counter c.loop.rest.now (entries_at (item_at c.args.levels) None c.args.count c.args.bytes.now)
    k c.in_ok-name.value.now c.in_ok-node.next.now (data_of n) c.loop-test.true c.in_ok-name.ensures c.in_ok-node.ensures c.loop.invariant)

pub entries-returns : goal.entries-returns
entries-returns t c =
    let e : c.shrink_to_fit.new.self.items ≡ c.loop.members.items = search rules in
    rw e (entries.is_done (map entry_of c.loop.members.items) (item_at c.args.levels) (option_map (λ k. k.now) c.loop.before) c.args.count c.loop.counter c.loop.rest.now (entries_at (item_at c.args.levels) None c.args.count c.args.bytes.now) c.loop-test.false c.loop.invariant)

pub branch-returns-in_ok-members-in-MapOf : goal.branch-returns-in_ok-members-in-MapOf
branch-returns-in_ok-members-in-MapOf t c =
    map_read (item_at c.args.levels) c.args.bytes.now c.in_ok-own.own c.in-MapOf.count c.in_ok-own.rest.now c.in_ok-members-in-MapOf.members c.in_ok-members-in-MapOf.rest.now c.in_ok-own.ensures c.in-MapOf.is c.in_ok-members-in-MapOf.ensures
