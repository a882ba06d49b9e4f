use Rattle.std.proofs.Common.{◌<◌, ◌≤◌, ◌+◌, length, get_or, refl, sym, ◌∙◌, ap, subst, arith}
use Rattle.ix_car.specs.Events.{IsOpen}
use Rattle.ix_pipeline.proofs.ThreadClosings.{closed_none, next_fresh, closed_more, all_closed}
use Rattle.ix_pipeline.proofs.caller.close_all.Goals as goal

pub loop-sink-init : goal.loop-sink-init
loop-sink-init g c = record {
  closed = closed_none g.S.Sink.calls c.args.end g.S.Sink.guarantee c.args.ends.items c.args.sinks.now c.requires.room.0 c.requires.fresh;
  room = refl;
  counted = let none = ap length c.requires.room.0 in omega (arith, c.args.ends.ok.0);
}

pub close-requires : goal.close-requires
close-requires g c =
    let sinks = c.loop-sink.sinks in
    let at = c.loop-sink.sink-index in
    let sink = get_or sinks at c.sink-item.result in
    let within : at < length sinks = omega arith in
    let fresh = next_fresh g.S.Sink.calls c.args.end g.S.Sink.guarantee at c.loop-sink.ends.items c.args.sinks.now sinks sink c.loop-sink.invariant.closed within (ap (λ s. get_or sinks at s) c.sink-item.is) in
    subst (λ l. IsOpen l) (sym fresh.0) tt

pub push_reserved-requires : goal.push_reserved-requires
push_reserved-requires g c =
    let slot = c.loop-sink.invariant.counted in
    let size = c.loop-sink.invariant.room in
    let enough = c.requires.room.1 in
    omega arith

pub loop-sink-preserved : goal.loop-sink-preserved
loop-sink-preserved g c =
    let sinks = c.loop-sink.sinks in
    let at = c.loop-sink.sink-index in
    let sink = get_or sinks at c.sink-item.result in
    let within : at < length sinks = omega arith in record {
      closed =
          closed_more g.S.Sink.calls c.args.end g.S.Sink.guarantee at c.loop-sink.ends.items c.push_reserved.new.self.items c.args.sinks.now sinks sink c.close.new.self
          c.loop-sink.invariant.closed within (ap (λ s. get_or sinks at s) c.sink-item.is) c.push_reserved.ensures.items c.close.ensures.closed c.close.ensures.failed c.close.ensures.kept;
      room = c.push_reserved.ensures.capacity ∙ c.loop-sink.invariant.room;
      counted = c.push_reserved.ensures.len ∙ ap (λ n. n + 1) c.loop-sink.invariant.counted;
    }

pub returns : goal.returns
returns g c =
    let sinks = c.loop-sink.sinks in
    let past : length sinks ≤ c.loop-sink.sink-index = omega arith in record {
      closed = all_closed g.S.Sink.calls c.args.end g.S.Sink.guarantee c.loop-sink.sink-index c.loop-sink.ends.items c.args.sinks.now sinks past c.loop-sink.invariant.closed;
      facts = (let closed = c.loop-sink.invariant.closed in closed.kept);
    }
