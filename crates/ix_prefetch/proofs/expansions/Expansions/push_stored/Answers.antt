use Rattle.std.proofs.Common.{◌<◌, ◌∷◌, [], length, sym, subst}
use Rattle.ix_walk.specs.Walking.{waiting}
use Rattle.ix_prefetch.specs.declared.link.Link.TheVariants.{Stored}
use Rattle.ix_prefetch.specs.Link.{cid_at, IsHashedAt}
use Rattle.ix_prefetch.specs.Expansions.{ExpansionTable, residual_in, table_of}
use Rattle.ix_prefetch.specs.Growing.{Adds}
use Rattle.ix_prefetch.proofs.Tables.{link_more}
use Rattle.ix_prefetch.proofs.expansions.Expansions.push_stored.Goals as goal

pub invariant_of-self-2 : goal.invariant_of-self-2
invariant_of-self-2 c =
    let s = c.self.inside in
    let valid = subst (λ (t : ExpansionTable). (c.args.residual < length t.residuals) × IsHashedAt t.store c.args.place) (sym c.self.view_is) (c.requires.residual, c.requires.place) in
    (link_more s.store.now s.job.now s.residuals.items s.cids.items s.links.items c.push.new.self.items s.pairs.items (Stored c.args.residual c.args.place c.args.pair) c.in_ok-push.ensures.items valid c.self.invariant).0

pub returns-clause-added : goal.returns-clause-added
returns-clause-added c =
    let s = c.self.inside in
    let valid = subst (λ (t : ExpansionTable). (c.args.residual < length t.residuals) × IsHashedAt t.store c.args.place) (sym c.self.view_is) (c.requires.residual, c.requires.place) in
    subst (λ (t : ExpansionTable). Adds t (table_of s.store.now s.job.now s.residuals.items s.cids.items c.push.new.self.items) (waiting (residual_in t c.args.residual) 0 (cid_at t.store c.args.place) ∷ [])) c.self.view_is
    (link_more s.store.now s.job.now s.residuals.items s.cids.items s.links.items c.push.new.self.items s.pairs.items (Stored c.args.residual c.args.place c.args.pair) c.in_ok-push.ensures.items valid c.self.invariant).1
