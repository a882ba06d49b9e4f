use Rattle.std.proofs.Common.{◌≡◌, ◌++◌, drop}
use Rattle.ix_cbor.specs.Data.{node_items, node_entries}
use Rattle.ix_selector_json.specs.Notation.{items_tokens, entries_tokens}
use Rattle.ix_selector_json.proofs.print.+push_node.Given as goal

abbrev pub invariant-push_members-loop-member : goal.invariant-push_members-loop-member
invariant-push_members-loop-member l = record {
  pushed : l.out.tokens ++ items_tokens (node_items (drop l.member-index l.members)) ≡ l.initial.out.tokens ++ items_tokens (node_items l.members);
  before : l.out.before ≡ l.initial.out.before;
}

abbrev pub invariant-push_entries-loop-key : goal.invariant-push_entries-loop-key
invariant-push_entries-loop-key l = record {
  pushed : l.out.tokens ++ entries_tokens (node_entries (drop l.key-index l.entries)) ≡ l.initial.out.tokens ++ entries_tokens (node_entries l.entries);
  before : l.out.before ≡ l.initial.out.before;
}
