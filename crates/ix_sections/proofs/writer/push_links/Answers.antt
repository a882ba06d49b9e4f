use Rattle.ix_sections.proofs.HeaderLinks.{links-pushed}
use Rattle.ix_sections.proofs.writer.push_links.Goals as goal

pub returns : goal.returns
returns c =
    links-pushed c.args.cids.now c.loop-cid.cid-index c.args.out.now.items c.push_head.new.out.items c.loop-cid.out.items c.in_ok-push_head.ensures.ok c.loop-cid.invariant c.loop-cid-test.false
