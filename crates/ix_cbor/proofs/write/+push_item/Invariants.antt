use Rattle.std.proofs.Common.{◌≡◌, ◌++◌, drop}
use Rattle.ix_cbor.specs.Spelling.{items_spelling, entries_spelling, AreSpellable, AreRising}
use Rattle.ix_cbor.specs.Data.{node_items, node_entries}
use Rattle.ix_cbor.proofs.write.+push_item.Given as goal

abbrev pub invariant-push_members-loop-member : goal.invariant-push_members-loop-member
invariant-push_members-loop-member l = record {
  spellable : AreSpellable (node_items (drop l.member-index l.members));
  pushed : l.out.items ++ items_spelling (node_items (drop l.member-index l.members)) ≡ l.initial.out.items ++ items_spelling (node_items l.members);
}

abbrev pub invariant-push_entries-loop-key : goal.invariant-push_entries-loop-key
invariant-push_entries-loop-key l = record {
  rising : AreRising (node_entries (drop l.key-index l.entries));
  pushed : l.out.items ++ entries_spelling (node_entries (drop l.key-index l.entries)) ≡ l.initial.out.items ++ entries_spelling (node_entries l.entries);
}
