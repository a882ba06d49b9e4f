use Rattle.std.proofs.Common.{arith}
use Rattle.ix_prefetch.proofs.Tables.{no_items}
use Rattle.ix_prefetch.proofs.Listing.{put_none, put_one, put_all}
use Rattle.ix_prefetch.proofs.next_link.put_links.Goals as goal

pub loop-link-init : goal.loop-link-init
loop-link-init c t within = put_none t c.args.links.items c.args.state.now c.put_aside.new.state (c.in_ok-put_aside.ensures t within)

pub loop-link-preserved : goal.loop-link-preserved
loop-link-preserved c t within =
    put_one t c.args.links.items c.loop-link.links.items c.pop.new.self.items c.args.state.now c.loop-link.state c.push.new.self c.in-Some.link (c.loop-link.invariant t within) c.in-Some.ensures.items c.in_ok-push.ensures.items

pub returns : goal.returns
returns c t within =
    put_all t c.args.links.items c.loop-link.links.items c.args.state.now c.loop-link.state (c.loop-link.invariant t within) (no_items c.loop-link.links.items (omega (arith, c.in_default.ensures.cases.0, c.loop-link.links.ok.0)))
