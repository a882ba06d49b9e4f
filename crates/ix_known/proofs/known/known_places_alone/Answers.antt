use Rattle.std.proofs.Common.{◌≤◌, length, arith}
use Rattle.ix_known.proofs.KnownIn.{first-none, first-step, first-all}
use Rattle.ix_known.proofs.known.known_places_alone.Goals as goal

pub loop-place-init : goal.loop-place-init
loop-place-init c = first-none _ c.new-known.result c.new-known.ensures

pub loop-place-preserved : goal.loop-place-preserved
loop-place-preserved c = first-step c.args.store.now c.args.base.now c.loop-place.known c.put_known.new.known c.loop-place.place c.answer_at.result c.loop-place.invariant c.answer_at.ensures c.in_ok-put_known.ensures

pub returns : goal.returns
returns c =
    let store = c.args.store.now in
    let all : length store ≤ c.loop-place.place = omega (arith, c.loop-place-test.false, c.len-place-end.ensures) in
    first-all store c.args.base.now c.loop-place.known c.loop-place.place c.loop-place.invariant all
