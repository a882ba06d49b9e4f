use Rattle.std.proofs.lemmas.Grind.{common_steps}
use Rattle.std.proofs.Common.{rules, arith}
use Rattle.ix_cbor.specs.declared.node.Node.TheFolds.{the_lemmas}
use Rattle.ix_cbor.proofs.Pushed.{value-spellable, map-rising, list-pushed, map-pushed}
use Rattle.ix_cbor.proofs.write.+push_item.Goals as goal

pub push_entries-push_item-requires : goal.push_entries-push_item-requires
push_entries-push_item-requires t c =
    (search (rules, the_lemmas), value-spellable c.args.entries.now c.loop-key.key-index c.loop-key-item.result (omega arith) c.loop-key-item.is c.loop-key.invariant.rising)

pub push_item-returns-in_ok-push_head-in-List : goal.push_item-returns-in_ok-push_head-in-List
push_item-returns-in_ok-push_head-in-List t c = record {
  ok = list-pushed c.push_members.result c.args.node.now c.in-List.members c.deref.result.now c.len.result c.args.out.now.items c.push_head-in-List.new.out.items c.push_members.new.out.items c.in-List.is c.deref.ensures.value (search rules) c.in_ok-push_head-in-List.ensures.ok c.push_members.ensures.ok;
}

pub push_item-returns-in_ok-push_head-in-Map : goal.push_item-returns-in_ok-push_head-in-Map
push_item-returns-in_ok-push_head-in-Map t c = record {
  ok = map-pushed c.push_entries.result c.args.node.now c.in-Map.entries c.deref-in-Map.result.now c.len-in-Map.result c.args.out.now.items c.push_head-in-Map.new.out.items c.push_entries.new.out.items c.in-Map.is c.deref-in-Map.ensures.value (search rules) c.in_ok-push_head-in-Map.ensures.ok c.push_entries.ensures.ok;
}

pub push_item-push_entries-requires : goal.push_item-push_entries-requires
push_item-push_entries-requires t c =
    (search (rules, the_lemmas), map-rising c.args.node.now c.in-Map.entries c.deref-in-Map.result.now c.in-Map.is c.deref-in-Map.ensures.value c.requires)

pub push_item-push_int-requires : goal.push_item-push_int-requires
push_item-push_int-requires t c = search (rules, the_lemmas)

pub push_item-push_members-requires : goal.push_item-push_members-requires
push_item-push_members-requires t c = search (rules, the_lemmas)

pub push_item-returns-in-Null : goal.push_item-returns-in-Null
push_item-returns-in-Null t c = search (rules, the_lemmas)

pub push_item-returns-in-Bool-true : goal.push_item-returns-in-Bool-true
push_item-returns-in-Bool-true t c = search (rules, the_lemmas)

pub push_item-returns-in-Bool-false : goal.push_item-returns-in-Bool-false
push_item-returns-in-Bool-false t c = search (rules, the_lemmas)

pub push_item-returns-in-Int : goal.push_item-returns-in-Int
push_item-returns-in-Int t c = search (rules, the_lemmas)

pub push_item-returns-in-Bits64 : goal.push_item-returns-in-Bits64
push_item-returns-in-Bits64 t c = search (rules, the_lemmas)

pub push_item-returns-in-Bytes : goal.push_item-returns-in-Bytes
push_item-returns-in-Bytes t c = search (rules, the_lemmas)

pub push_item-returns-in-Text : goal.push_item-returns-in-Text
push_item-returns-in-Text t c = search (rules, the_lemmas)

pub push_item-returns-in-Link : goal.push_item-returns-in-Link
push_item-returns-in-Link t c = search (rules, the_lemmas)

pub push_entries-loop-key-preserved : goal.push_entries-loop-key-preserved
push_entries-loop-key-preserved t c = grind (arith, common_steps)

pub push_entries-returns : goal.push_entries-returns
push_entries-returns t c = grind (arith, common_steps)

pub push_members-loop-member-preserved : goal.push_members-loop-member-preserved
push_members-loop-member-preserved t c = grind (arith, common_steps)

pub push_members-returns : goal.push_members-returns
push_members-returns t c = grind (arith, common_steps)
