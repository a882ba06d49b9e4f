use Rattle.ix_pipeline.proofs.Callers.{gathers_trans, joined_after, drain_after, flown_after}
use Rattle.ix_pipeline.proofs.ThreadClosings.{flown_of_closed}
use Rattle.ix_pipeline.proofs.flowing.flow_in.Goals as goal

pub close_unstarted-requires-clause-joined : goal.close_unstarted-requires-clause-joined
close_unstarted-requires-clause-joined g c = joined_after c.start_walkers.ensures c.join.ensures c.stop_unfed.ensures

pub returns-then-not-start_walkers : goal.returns-then-not-start_walkers
returns-then-not-start_walkers g c =
    let e = c.close_unstarted.ensures in
    flown_of_closed g.S.Sink.calls g.S.Sink.guarantee g.C.Check.checked c.args.shared.now.task.now c.args.sinks.now c.close_unstarted.new.sinks c.close_unstarted.result c.requires.fresh.sized e.closed e.facts e.checks

pub drain-requires : goal.drain-requires
drain-requires g c =
    let gathers = gathers_trans c.collect.ensures.on c.stop.ensures in
    let done = c.stop.ensures.on.done c.collect.ensures.done in
    record { joined = joined_after c.start_walkers.ensures c.join-2.ensures gathers.stops; can = drain_after c.start_walkers.ensures c.join-2.ensures gathers done }

pub returns : goal.returns
returns g c = let gathers = gathers_trans c.collect.ensures.on c.stop.ensures in flown_after gathers.on.kept c.drain.ensures
