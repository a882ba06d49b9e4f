use Rattle.std.proofs.Common.{sym, ◌∙◌, ap, subst, below_more, arith}
use Rattle.ix_verdict.specs.Verdict.{passes}
use Rattle.ix_receive.specs.Base.{store_of}
use Rattle.ix_receive.specs.Roots.{RootsPass}
use Rattle.ix_receive.proofs.Verdicts.{all-pass, root-at}
use Rattle.ix_receive.proofs.receiver.check_roots.Goals as goal

pub loop-root-preserved : goal.loop-root-preserved
loop-root-preserved c =
    below_more _ _ c.loop-root.invariant
    (root-at (store_of c.args.sections.now) c.roots-root-items.result.now c.loop-root.root-index c.root-item.result c.loop-root-test.true c.root-item.is
    (ap passes (sym c.verdict-verdict.ensures) ∙ sym c.passes.ensures ∙ c.if-not-passes.false))

pub returns-clause-pass : goal.returns-clause-pass
returns-clause-pass c =
    subst (RootsPass (store_of c.args.sections.now)) c.roots-root-items.ensures
    (all-pass (store_of c.args.sections.now) c.roots-root-items.result.now (λ k h. c.loop-root.invariant k (omega (arith, h, c.loop-root-test.false))))
