use Rattle.std.proofs.Common.{sym, subst}
use Rattle.ix_prefetch.specs.Expansions.{ExpansionTable, IsPair}
use Rattle.ix_prefetch.proofs.Tables.{pair_more}
use Rattle.ix_prefetch.proofs.expansions.Expansions.push_pair.Goals as goal

pub invariant_of-self-2 : goal.invariant_of-self-2
invariant_of-self-2 c =
    let s = c.self.inside in
    pair_more s.store.now s.job.now s.residuals.items s.cids.items s.links.items s.pairs.items c.push.new.self.items c.args.pair c.in_ok-push.ensures.items c.self.invariant
    (subst (λ (t : ExpansionTable). IsPair t c.args.pair) (sym c.self.view_is) c.requires)
