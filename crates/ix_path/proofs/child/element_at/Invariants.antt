use Rattle.ix_path.proofs.Members.{ElementsLeft}
use Rattle.ix_path.proofs.child.element_at.Given as goal

abbrev pub invariant-loop : goal.invariant-loop
invariant-loop l = ElementsLeft l.count l.index l.at l.counter l.rest
