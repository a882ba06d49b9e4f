use Rattle.std.proofs.Common.{◌<◌, Ok, sym, ap, ◌∙◌, subst, arith}
use Rattle.std.proofs.lemmas.Result.{err_from_is_err_and, IfOk-weaker, IfErr-weaker}
use Rattle.ix_cbor.specs.declared.front.Front.{Front}
use Rattle.ix_cbor.specs.Fronts.{own_of_front}
use Rattle.ix_dag_json.specs.Place.{HaveValues}
use Rattle.ix_dag_json.proofs.Places.{front_there, leaf_at, other_leaf, list_deep, map_deep, list_has, map_has, leaf_printed, list_printed, map_printed, list_lacks, map_lacks, no_items_yet, item_there, one_item_more, all_items_printed, item_found}
use Rattle.ix_dag_json.proofs.PlacedEntries.{no_places_yet, place_at_more, all_places_printed, places_printed, places_lack, sorted_values, place_lacks}
use Rattle.ix_dag_json.proofs.Lacking.{item_lacks}
use Rattle.ix_dag_json.proofs.print.+push_item.Goals as goal

pub push_entries-push_places-requires : goal.push_entries-push_places-requires
push_entries-push_places-requires t c =
    let values = sorted_values c.args.levels c.args.count c.args.at.now c.in_ok-entries.entries.items c.sorted.result.items c.in_ok-entries.rest.now c.in_ok-entries.ensures c.sorted.ensures in
    (omega arith, (c.requires.0, subst (HaveValues c.args.levels) (sym c.as_slice.ensures.value) values))

pub push_entries-returns-in_err-push_places-clause-refused : goal.push_entries-returns-in_err-push_places-clause-refused
push_entries-returns-in_err-push_places-clause-refused t c =
    let p = err_from_is_err_and c.from_residual-in_err-push_places.result c.from_residual-in_err-push_places.ensures.1 in
    rw (p.1, p.2)
    (places_lack c.args.levels c.args.count c.args.at.now c.in_ok-entries.entries.items c.sorted.result.items c.in_ok-entries.rest.now _ c.in_ok-entries.ensures c.sorted.ensures
    (rw (sym c.as_slice.ensures.value) c.in_err-push_places.ensures.refused))

pub push_entries-returns-clause-shown : goal.push_entries-returns-clause-shown
push_entries-returns-clause-shown t c =
    places_printed c.args.levels c.args.count c.args.at.now c.in_ok-entries.entries.items c.sorted.result.items c.in_ok-entries.rest.now c.args.out.now c.push_places.new.out
    c.in_ok-entries.ensures c.sorted.ensures (rw (sym c.as_slice.ensures.value) c.in_ok-push_places.ensures.shown)

pub push_item-front_at-requires : goal.push_item-front_at-requires
push_item-front_at-requires t c = front_there c.args.levels c.args.at.now c.requires.1

pub push_item-overflow_sub-levels : goal.push_item-overflow_sub-levels
push_item-overflow_sub-levels t c =
    let own = c.front_at.ensures.exact ∙ ap (λ (f : Front). Ok (own_of_front f, c.front_at.result.1.now)) c.in-List.is in
    let deep : 0 < c.args.levels = list_deep c.args.at.now c.front_at.result.1.now c.in-List.count c.args.levels c.requires.1 own in
    omega (arith, deep)

pub push_item-push_items-requires : goal.push_item-push_items-requires
push_item-push_items-requires t c =
    let own = c.front_at.ensures.exact ∙ ap (λ (f : Front). Ok (own_of_front f, c.front_at.result.1.now)) c.in-List.is in
    let deep : 0 < c.args.levels = list_deep c.args.at.now c.front_at.result.1.now c.in-List.count c.args.levels c.requires.1 own in
    (omega (arith, deep), (omega (arith, c.requires.0), list_has c.args.at.now c.front_at.result.1.now c.in-List.count c.args.levels deep c.requires.1 own))

pub push_item-overflow_sub-levels-in-Map : goal.push_item-overflow_sub-levels-in-Map
push_item-overflow_sub-levels-in-Map t c =
    let own = c.front_at.ensures.exact ∙ ap (λ (f : Front). Ok (own_of_front f, c.front_at.result.1.now)) c.in-Map.is in
    let deep : 0 < c.args.levels = map_deep c.args.at.now c.front_at.result.1.now c.in-Map.count c.args.levels c.requires.1 own in
    omega (arith, deep)

pub push_item-push_entries-requires : goal.push_item-push_entries-requires
push_item-push_entries-requires t c =
    let own = c.front_at.ensures.exact ∙ ap (λ (f : Front). Ok (own_of_front f, c.front_at.result.1.now)) c.in-Map.is in
    let deep : 0 < c.args.levels = map_deep c.args.at.now c.front_at.result.1.now c.in-Map.count c.args.levels c.requires.1 own in
    (omega (arith, deep), (omega (arith, c.requires.0), map_has c.args.at.now c.front_at.result.1.now c.in-Map.count c.args.levels deep c.requires.1 own))

pub push_item-returns-in_err-push_leaf-in_default : goal.push_item-returns-in_err-push_leaf-in_default
push_item-returns-in_err-push_leaf-in_default t c =
    let p = err_from_is_err_and c.from_residual-in_err-push_leaf-in_default.result c.from_residual-in_err-push_leaf-in_default.ensures.1 in
    let front = c.front_at.result.0 in
    let rest = c.front_at.result.1.now in
    let leaf = other_leaf front c.in_default.not-List c.in_default.not-Map in
    rw (p.1, p.2) (record {
      shown = tt;
      refused = (_, rest, leaf_at c.args.levels c.args.at.now rest front leaf c.front_at.ensures.exact, c.in_err-push_leaf-in_default.ensures.refused);
    })

pub push_item-returns-in_ok-token-in-List-clause-shown : goal.push_item-returns-in_ok-token-in-List-clause-shown
push_item-returns-in_ok-token-in-List-clause-shown t c =
    let at = c.args.at.now in
    let rest = c.front_at.result.1.now in
    let own = c.front_at.ensures.exact ∙ ap (λ (f : Front). Ok (own_of_front f, rest)) c.in-List.is in
    let deep : 0 < c.args.levels = list_deep at rest c.in-List.count c.args.levels c.requires.1 own in
    IfOk-weaker c.push_items.result _ _ (λ r. list_printed c.args.levels at rest r.now c.in-List.count c.args.out.now c.token.new.self c.push_items.new.out deep own c.in_ok-token-in-List.ensures) c.push_items.ensures.shown

pub push_item-returns-in_ok-token-in-List-clause-refused : goal.push_item-returns-in_ok-token-in-List-clause-refused
push_item-returns-in_ok-token-in-List-clause-refused t c =
    let at = c.args.at.now in
    let rest = c.front_at.result.1.now in
    let own = c.front_at.ensures.exact ∙ ap (λ (f : Front). Ok (own_of_front f, rest)) c.in-List.is in
    let deep : 0 < c.args.levels = list_deep at rest c.in-List.count c.args.levels c.requires.1 own in
    IfErr-weaker c.push_items.result _ _ (λ f. list_lacks c.args.levels at rest c.in-List.count f deep own) c.push_items.ensures.refused

pub push_item-returns-in_ok-token-in-Map-clause-shown : goal.push_item-returns-in_ok-token-in-Map-clause-shown
push_item-returns-in_ok-token-in-Map-clause-shown t c =
    let at = c.args.at.now in
    let rest = c.front_at.result.1.now in
    let own = c.front_at.ensures.exact ∙ ap (λ (f : Front). Ok (own_of_front f, rest)) c.in-Map.is in
    let deep : 0 < c.args.levels = map_deep at rest c.in-Map.count c.args.levels c.requires.1 own in
    IfOk-weaker c.push_entries.result _ _ (λ r. map_printed c.args.levels at rest r.now c.in-Map.count c.args.out.now c.token-in-Map.new.self c.push_entries.new.out deep own c.in_ok-token-in-Map.ensures) c.push_entries.ensures.shown

pub push_item-returns-in_ok-token-in-Map-clause-refused : goal.push_item-returns-in_ok-token-in-Map-clause-refused
push_item-returns-in_ok-token-in-Map-clause-refused t c =
    let at = c.args.at.now in
    let rest = c.front_at.result.1.now in
    let own = c.front_at.ensures.exact ∙ ap (λ (f : Front). Ok (own_of_front f, rest)) c.in-Map.is in
    let deep : 0 < c.args.levels = map_deep at rest c.in-Map.count c.args.levels c.requires.1 own in
    IfErr-weaker c.push_entries.result _ _ (λ f. map_lacks c.args.levels at rest c.in-Map.count f deep own) c.push_entries.ensures.refused

pub push_item-returns-in_ok-push_leaf-in_default : goal.push_item-returns-in_ok-push_leaf-in_default
push_item-returns-in_ok-push_leaf-in_default t c =
    let front = c.front_at.result.0 in
    let leaf = other_leaf front c.in_default.not-List c.in_default.not-Map in
    record {
      shown = leaf_printed c.args.levels c.args.at.now c.front_at.result.1.now front c.args.out.now c.push_leaf.new.out leaf c.front_at.ensures.exact c.in_ok-push_leaf-in_default.ensures.shown;
      refused = tt;
    }

pub push_items-loop-index-init : goal.push_items-loop-index-init
push_items-loop-index-init t c = no_items_yet c.args.levels c.args.count c.args.at.now c.args.out.now

pub push_items-push_item-requires : goal.push_items-push_item-requires
push_items-push_item-requires t c = (
  omega arith,
  (
    c.requires.0,
    item_there c.args.levels c.args.count c.args.at.now c.args.out.now c.loop-index.out c.loop-index.index c.loop-index.rest.now c.loop-index-test.true c.requires.1 c.loop-index.invariant,
  ),
)

pub push_items-returns-in-Err-clause-refused : goal.push_items-returns-in-Err-clause-refused
push_items-returns-in-Err-clause-refused t c =
    let has = c.requires.1 in
    let lack = c.in-Err.ensures.refused in
    let found = item_found c.args.levels c.args.count c.args.at.now c.args.out.now c.loop-index.out c.loop-index.index c.loop-index.rest.now lack.1 lack.0 c.loop-index-test.true has lack.2 c.loop-index.invariant in
    (has.0, has.1, has.2, item_lacks has.0 c.loop-index.index lack.0 c.in-Err.fault c.under.result found lack.3 c.under.ensures)

pub push_items-loop-index-preserved : goal.push_items-loop-index-preserved
push_items-loop-index-preserved t c =
    one_item_more c.args.levels c.args.count c.args.at.now c.args.out.now c.loop-index.out c.push_item.new.out c.loop-index.index c.loop-index.rest.now c.in-Ok.behind.now
    c.loop-index-test.true c.in-Ok.ensures.shown c.loop-index.invariant

pub push_items-returns-clause-shown : goal.push_items-returns-clause-shown
push_items-returns-clause-shown t c =
    all_items_printed c.args.levels c.args.count c.args.at.now c.args.out.now c.loop-index.out c.token.new.self c.loop-index.index c.loop-index.rest.now
    c.loop-index-test.false c.in_ok-token.ensures c.loop-index.invariant

pub push_places-loop-entry-init : goal.push_places-loop-entry-init
push_places-loop-entry-init t c = no_places_yet c.args.levels c.args.entries.now c.args.out.now

pub push_places-returns-in-Err-clause-refused : goal.push_places-returns-in-Err-clause-refused
push_places-returns-in-Err-clause-refused t c =
    place_lacks c.args.levels c.args.entries.now c.loop-entry.entry-index _ c.in-Err.fault c.under.result c.step_of.result c.loop-entry-test.true c.step_of.ensures c.in-Err.ensures.refused c.under.ensures

pub push_places-loop-entry-preserved : goal.push_places-loop-entry-preserved
push_places-loop-entry-preserved t c =
    place_at_more c.args.levels c.args.entries.now c.loop-entry.entry-index _ c.in_ok-name.name.now c.args.out.now c.loop-entry.out c.token.new.self c.push_item.new.out c.in_default.field-0.now
    c.loop-entry-test.true c.in_ok-name.ensures.text.same c.in_ok-name.ensures.text.key c.in_ok-token.ensures c.in_default.ensures.shown c.loop-entry.invariant

pub push_places-returns-clause-shown : goal.push_places-returns-clause-shown
push_places-returns-clause-shown t c =
    all_places_printed c.args.levels c.args.entries.now c.loop-entry.entry-index c.args.out.now c.loop-entry.out c.token-2.new.self c.loop-entry-test.false c.in_ok-token-2.ensures c.loop-entry.invariant
