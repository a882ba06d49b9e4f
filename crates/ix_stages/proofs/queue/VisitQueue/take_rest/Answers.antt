use Rattle.ix_stages.proofs.Takes.{takes}
use Rattle.ix_stages.proofs.Joins.{learns_what_is_left}
use Rattle.ix_stages.proofs.queue.VisitQueue.take_rest.Goals as goal

pub pop_as-requires-clause-rule : goal.pop_as-requires-clause-rule
pop_as-requires-clause-rule g c = let h = c.rest.invariant.1 in (takes _ _ h.live h.part, learns_what_is_left _ _ h.live h.part)
