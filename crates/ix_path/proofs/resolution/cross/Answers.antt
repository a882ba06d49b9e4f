use Rattle.std.proofs.Common.{◌∙◌, subst}
use Rattle.std.specs.Prelude.{Result}
use Rattle.ix_cbor.specs.Data.{Data}
use Rattle.ix_path.specs.declared.obstacle.Obstacle.{Obstacle}
use Rattle.ix_path.specs.Resolution.{entered, Goes}
use Rattle.ix_path.proofs.Routes.{absent, cross_on, cross_stop, cross_here, cross_all}
use Rattle.ix_path.proofs.resolution.cross.Goals as goal

pub returns-in_default : goal.returns-in_default
returns-in_default c =
    c.loop.invariant c.loop.blocks.items _ (cross_here c.args.store.now c.loop.counter c.loop-test.true c.loop.node c.loop.blocks.items (absent c.link.result c.in_default.not-Some ∙ c.link.ensures))

pub returns-in-Err : goal.returns-in-Err
returns-in-Err c =
    let gone = subst (λ (r : Result Data Obstacle). Goes c.loop.blocks.items c.enter.new.blocks.items r (entered c.args.store.now c.in-Some.name)) c.in-Err.is c.in_ok-next.ensures in
    c.loop.invariant c.enter.new.blocks.items _
    (cross_stop c.args.store.now c.loop.counter c.loop-test.true c.loop.node c.loop.blocks.items c.in-Some.name c.enter.new.blocks.items c.in-Err.obstacle c.in-Some.ensures gone)

pub loop-preserved : goal.loop-preserved
loop-preserved c = λ new end h.
    let gone = subst (λ (r : Result Data Obstacle). Goes c.loop.blocks.items c.enter.new.blocks.items r (entered c.args.store.now c.in-Some.name)) c.in-Ok.is c.in_ok-next.ensures in
    c.loop.invariant new end
    (cross_on c.args.store.now c.loop.counter c.loop-test.true c.loop.node c.loop.blocks.items c.in-Some.name c.enter.new.blocks.items new c.in-Ok.next end c.in-Some.ensures gone h)

pub returns : goal.returns
returns c = c.loop.invariant c.loop.blocks.items _ (cross_all c.args.store.now c.loop.counter c.loop.node c.loop.blocks.items c.loop-test.false)
