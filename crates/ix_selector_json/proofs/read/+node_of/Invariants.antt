use Rattle.ix_selector_json.proofs.Sayings.{ItemsSoFar, MembersSoFar}
use Rattle.ix_selector_json.proofs.Spelled.{ItemsFitSoFar, MembersFitSoFar}
use Rattle.ix_selector_json.proofs.read.+node_of.Given as goal

abbrev pub invariant-entries_of-loop-name : goal.invariant-entries_of-loop-name
invariant-entries_of-loop-name l = record {
  says : MembersSoFar l.values l.name-index l.entries.items;
  fits : MembersFitSoFar l.values l.entries.items;
}

abbrev pub invariant-members_of-loop-value : goal.invariant-members_of-loop-value
invariant-members_of-loop-value l = record {
  says : ItemsSoFar l.values l.value-index l.members.items;
  fits : ItemsFitSoFar l.values l.members.items;
}
