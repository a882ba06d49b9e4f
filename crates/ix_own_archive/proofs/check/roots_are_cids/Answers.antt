use Rattle.std.proofs.Common.{subst, below_more, arith}
use Rattle.ix_cid.specs.Cid.{IsCid}
use Rattle.ix_own_archive.proofs.Rightly.{all-cids, cid-at}
use Rattle.ix_own_archive.proofs.check.roots_are_cids.Goals as goal

pub loop-root-preserved : goal.loop-root-preserved
loop-root-preserved c =
    below_more _ _ c.loop-root.invariant
    (cid-at c.args.roots.now c.loop-root.root-index c.root-item.result c.loop-root-test.true c.root-item.is (subst IsCid c.as_bytes-bytes.ensures.bytes c.as_bytes-bytes.ensures.cid))

pub returns : goal.returns
returns c = all-cids c.args.roots.now (λ k h. c.loop-root.invariant k (omega (arith, h, c.loop-root-test.false)))
