use Rattle.std.proofs.Common.{subst}
use Rattle.std.specs.Prelude.{Option}
use Rattle.ix_walk.specs.declared.subtree.PendingLink.{PendingLink}
use Rattle.ix_walk.specs.Descent.{Finds}
use Rattle.ix_walk.proofs.Starts.{frontier-begins}
use Rattle.ix_walk.proofs.Expanding.{block_item, begins, goes_on, fewer, ends}
use Rattle.ix_walk.proofs.expansion.expand.Goals as goal

pub enter_block-requires-clause-block : goal.enter_block-requires-clause-block
enter_block-requires-clause-block c = block_item c.args.block c.requires

pub loop-links-init : goal.loop-links-init
loop-links-init c =
    begins c.args.block c.args.residual c.args.depth c.new-links.result.items c.new-frontier.result c.enter_block.new.frontier c.new-links.ensures.items
    (frontier-begins c.new-frontier.result c.new-frontier.ensures.next c.new-frontier.ensures.stack) c.requires c.in_ok-enter_block.ensures

pub loop-links-preserved : goal.loop-links-preserved
loop-links-preserved c =
    goes_on c.args.block c.args.residual c.args.depth c.loop-links.links.items c.push.new.self.items c.in-Some.found c.loop-links.frontier c.next_found.new.frontier c.loop-links.invariant
    (subst (λ (o : Option PendingLink). Finds c.loop-links.frontier o c.next_found.new.frontier) c.in-Some.is c.in_ok-found.ensures.found) c.in_ok-push.ensures.items

pub loop-links-smaller : goal.loop-links-smaller
loop-links-smaller c =
    fewer c.args.block c.args.residual c.args.depth c.loop-links.links.items c.in-Some.found c.loop-links.frontier c.next_found.new.frontier c.loop-links.invariant
    (subst (λ (o : Option PendingLink). Finds c.loop-links.frontier o c.next_found.new.frontier) c.in-Some.is c.in_ok-found.ensures.found)

pub returns : goal.returns
returns c =
    ends c.args.block c.args.residual c.args.depth c.loop-links.links.items c.loop-links.frontier c.next_found.new.frontier c.loop-links.invariant
    (subst (λ (o : Option PendingLink). Finds c.loop-links.frontier o c.next_found.new.frontier) c.in_default.is c.in_ok-found.ensures.found)
