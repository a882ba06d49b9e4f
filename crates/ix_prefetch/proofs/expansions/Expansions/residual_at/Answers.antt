use Rattle.std.proofs.Common.{◌<◌, length, sym, subst, arith}
use Rattle.ix_prefetch.specs.Expansions.{ExpansionTable, IsMet}
use Rattle.ix_prefetch.proofs.expansions.Expansions.residual_at.Goals as goal

pub returns : goal.returns
returns c =
    let s = c.self.inside in
    let x = c.index.result.now in
    let lt : c.args.number < length s.residuals.items = omega (arith, s.residuals.ok.0, c.len.ensures) in
    subst (λ (t : ExpansionTable). IsMet t.job.selector x) c.self.view_is (subst (IsMet s.job.now.selector) (sym c.index.ensures) (c.self.invariant.met c.args.number x lt))
