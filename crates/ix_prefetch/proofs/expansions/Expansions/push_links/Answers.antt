use Rattle.std.proofs.Common.{sym, subst}
use Rattle.ix_walk.specs.declared.subtree.PendingLink.{PendingLink}
use Rattle.ix_walk.specs.JobMeaning.{JobMeaning}
use Rattle.ix_prefetch.specs.Expansions.{IsMet}
use Rattle.ix_prefetch.proofs.expansions.Expansions.push_links.Goals as goal

pub push_link-requires : goal.push_link-requires
push_link-requires c =
    let item = c.link-item.result in
    subst (λ (j : JobMeaning). IsMet j.selector item.residual) (sym c.loop-link.invariant.job)
    (subst (λ (f : PendingLink). IsMet c.args.self.now.job.selector f.residual) (sym c.link-item.is) (c.requires c.loop-link.link-index item c.loop-link-test.true))
