use Rattle.std.proofs.Common.{◌<◌, arith}
use Rattle.crossbeam_queue.specs.Passes.{view}
use Rattle.ix_stages.proofs.QueuePuts.{puts}
use Rattle.ix_stages.proofs.SeatMoves.{may_stop}
use Rattle.ix_stages.proofs.queue.VisitQueue.try_stop.Goals as goal

pub push_as-requires-clause-rule : goal.push_as-requires-clause-rule
push_as-requires-clause-rule g c =
    let h = c.stop.invariant.1 in
    let p : 0 < (view c.stop.inside.pass).parts = (let q = h.part in omega (arith, q)) in
    (puts _ _ _ _ (may_stop _ h.alone.live p h.job), λ items views b at. tt)
