use Rattle.std.proofs.Common.{subst}
use Rattle.std.specs.Prelude.{IfSome}
use Rattle.ix_trace.specs.declared.tracer.Place.{Place}
use Rattle.ix_trace.specs.Trace.{GoesOn}
use Rattle.ix_trace.proofs.Traced.{goes_begin, goes_further}
use Rattle.ix_trace.proofs.tracer.descend.Goals as goal

pub loop-level-init : goal.loop-level-init
loop-level-init c = (c.requires, goes_begin c.args.store.now c.args.start.cid c.args.segments.now)

pub loop-level-preserved : goal.loop-level-preserved
loop-level-preserved c =
    let store = c.args.store.now in
    let here = c.loop-level.place.cid in
    let now = c.loop-level.segments in
    let new = c.step_at.new.segments in
    let on = subst (λ o. IfSome o (λ (next : Place). GoesOn store here next.cid now new)) c.in-Some.is c.in_ok-next.ensures.next in
    (c.step_at.ensures.kept, goes_further store c.args.start.cid here c.in-Some.next.cid c.args.segments.now now new c.loop-level.invariant.1 on)
