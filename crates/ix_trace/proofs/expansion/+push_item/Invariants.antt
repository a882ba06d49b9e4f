use Rattle.std.proofs.Common.{◌+◌, ◌*◌}
use Rattle.ix_trace.proofs.Found.{ElementsPassed, EntriesPassed}
use Rattle.ix_trace.proofs.expansion.+push_item.Given as goal

abbrev pub decreases-push_item : goal.decreases-push_item
decreases-push_item l = 3 * l.levels + 2

abbrev pub decreases-push_elements : goal.decreases-push_elements
decreases-push_elements l = 3 * l.levels + 1

abbrev pub decreases-push_values : goal.decreases-push_values
decreases-push_values l = 3 * l.levels + 1

abbrev pub decreases-push_child : goal.decreases-push_child
decreases-push_child l = 3 * l.levels

abbrev pub invariant-push_elements-loop-index : goal.invariant-push_elements-loop-index
invariant-push_elements-loop-index l = ElementsPassed l.fn.elements.0.now l.fn.elements.1 l.fn.node l.initial.found l.found l.index l.at

abbrev pub invariant-push_values-loop : goal.invariant-push_values-loop
invariant-push_values-loop l = EntriesPassed l.fn.entries.0.now l.fn.entries.1 l.fn.node l.initial.found l.found l.counter l.at
