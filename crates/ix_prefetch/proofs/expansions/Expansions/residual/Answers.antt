use Rattle.std.proofs.Common.{◌<◌, length, sym, subst}
use Rattle.ix_prefetch.specs.Expansions.{ExpansionTable, IsMet}
use Rattle.ix_prefetch.proofs.expansions.Expansions.residual.Goals as goal

pub returns-clause-met : goal.returns-clause-met
returns-clause-met c =
    let lt = subst (λ (t : ExpansionTable). c.args.number < length t.residuals) (sym c.self.view_is) c.requires in
    subst (λ (t : ExpansionTable). IsMet t.job.selector c.index.result.now) c.self.view_is
    (subst (IsMet c.self.inside.job.now.selector) (sym c.index.ensures) (c.self.invariant.met c.args.number c.index.result.now lt))
