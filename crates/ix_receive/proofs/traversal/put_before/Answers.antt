use Rattle.std.proofs.Common.{◌++◌, List, ℕ, map, reverse, ap}
use Rattle.ix_walk.specs.Walking.{waiting}
use Rattle.ix_receive.specs.Traversal.{as_pending}
use Rattle.ix_receive.proofs.NextLinks.{one-put}
use Rattle.ix_receive.proofs.traversal.put_before.Goals as goal

pub loop-link-preserved : goal.loop-link-preserved
loop-link-preserved c =
    let link = c.in-Some.link in
    one-put (c.args.links.items ++ reverse (map as_pending c.args.waiting.now.items)) c.loop-link.links.items c.pop.new.self.items c.loop-link.waiting.items c.push.new.self.items link (record { residual = link.residual; cid = c.in_ok-cid.cid; depth = link.depth })
    c.loop-link.invariant c.in-Some.ensures.items c.in_ok-push.ensures.items (ap (λ (d : List ℕ). waiting link.residual link.depth d) c.in_ok-cid.ensures.same)
