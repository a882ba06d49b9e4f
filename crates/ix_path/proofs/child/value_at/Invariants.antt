use Rattle.ix_path.proofs.Members.{EntriesLeft}
use Rattle.ix_path.proofs.child.value_at.Given as goal

abbrev pub invariant-loop : goal.invariant-loop
invariant-loop l = EntriesLeft l.count l.key l.at l.counter l.rest
