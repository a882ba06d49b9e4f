use Rattle.std.proofs.Common.{◌<◌, arith}
use Rattle.crossbeam_queue.specs.Passes.{view}
use Rattle.ix_stages.proofs.Takes.{takes}
use Rattle.ix_stages.proofs.Joins.{learns_what_is_left}
use Rattle.ix_stages.proofs.queue.VisitQueue.try_take.Goals as goal

pub pop_as-requires-clause-rule : goal.pop_as-requires-clause-rule
pop_as-requires-clause-rule g c =
    let h = c.taker.invariant.1 in
    let p : 0 < (view c.taker.inside.pass).parts = (let q = h.part in omega (arith, q)) in
    (takes _ _ h.alone.live p, learns_what_is_left _ _ h.alone.live p)
