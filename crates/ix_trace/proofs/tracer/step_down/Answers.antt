use Rattle.ix_trace.proofs.Traced.{goes_next}
use Rattle.ix_trace.proofs.tracer.step_down.Goals as goal

pub returns-clause-next : goal.returns-clause-next
returns-clause-next c = goes_next c.args.store.now c.in_ok-inside.inside c.args.place.cid c.args.segments.now c.link_in.new.segments c.in_ok-next.next c.in_ok-inside.ensures.inside c.in_ok-inside.ensures.cid c.in_ok-next.ensures
