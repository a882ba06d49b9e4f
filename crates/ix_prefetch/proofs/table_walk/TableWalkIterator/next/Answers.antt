use Rattle.ix_prefetch.proofs.Visits.{walks_roots}
use Rattle.ix_prefetch.proofs.table_walk.TableWalkIterator.next.Goals as goal

pub invariant_of-self-in-Ok-None : goal.invariant_of-self-in-Ok-None
invariant_of-self-in-Ok-None c = walks_roots c.self.inside.table.now c.self.inside.given c.clear.new.self c.self.invariant.limit c.clear.ensures.list c.clear.ensures.waiting

pub invariant_of-self-in-Err : goal.invariant_of-self-in-Err
invariant_of-self-in-Err c = walks_roots c.self.inside.table.now c.self.inside.given c.clear-in-Err.new.self c.self.invariant.limit c.clear-in-Err.ensures.list c.clear-in-Err.ensures.waiting
