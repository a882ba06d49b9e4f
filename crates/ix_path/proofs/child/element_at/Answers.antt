use Rattle.std.proofs.Common.{arith}
use Rattle.ix_path.proofs.Members.{element_is_item, elements_more, element_found}
use Rattle.ix_path.proofs.child.element_at.Goals as goal

pub skipped-rest-requires : goal.skipped-rest-requires
skipped-rest-requires c = element_is_item c.args.count c.args.index c.loop.counter c.args.at.now c.loop.rest.now (omega (arith, c.requires.within, c.loop-test.true)) c.requires.items c.loop.invariant

pub loop-preserved : goal.loop-preserved
loop-preserved c = elements_more c.args.count c.args.index c.loop.counter c.args.at.now c.loop.rest.now c.skipped-rest.result.now c.loop-test.true c.requires.within c.loop.invariant c.skipped-rest.ensures

pub node_at-requires : goal.node_at-requires
node_at-requires c = element_is_item c.args.count c.args.index c.loop.counter c.args.at.now c.loop.rest.now (omega (arith, c.requires.within, c.loop.auto.counter-end)) c.requires.items c.loop.invariant

pub returns : goal.returns
returns c = element_found c.args.count c.args.index c.loop.counter c.args.at.now c.loop.rest.now c.node_at.result c.requires.within c.loop-test.false (omega (arith, c.loop.auto.counter-end)) c.loop.invariant c.node_at.ensures
