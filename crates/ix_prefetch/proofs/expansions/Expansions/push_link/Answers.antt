use Rattle.std.proofs.Common.{◌≡◌, ◌∙◌, sym, ap, subst}
use Rattle.std.specs.Prelude.{Option, IfSome}
use Rattle.ix_prefetch.specs.declared.reading.StoredAt.{StoredAt}
use Rattle.ix_prefetch.specs.Expansions.{ExpansionTable}
use Rattle.ix_prefetch.specs.Link.{cid_at, IsStoredAt}
use Rattle.ix_prefetch.proofs.Adding.{on_ok, link_added}
use Rattle.ix_prefetch.proofs.expansions.Expansions.push_link.Goals as goal

pub returns-in-Some-clause-added : goal.returns-in-Some-clause-added
returns-in-Some-clause-added c =
    let mid = c.number_of.new.self in
    let place = c.in-Some.at.place in
    let stored = subst (λ (o : Option StoredAt). IfSome o (λ s. IsStoredAt c.self.inside.store.now c.args.link.now.cid s.place)) c.in-Some.is c.in_ok-at.ensures in
    let same : cid_at mid.store place ≡ c.args.link.now.cid = ap (λ (t : ExpansionTable). cid_at t.store place) (sym c.self.view_is) ∙ stored.cid in
    on_ok c.push_stored.result
    (link_added c.args.self.now mid c.push_stored.new.self c.args.link.now.residual c.in_ok-number.number c.args.link.now.cid (cid_at mid.store place) c.in_ok-number.ensures.adds c.in_ok-number.ensures.number same) c.push_stored.ensures.added

pub returns-in-None-clause-added : goal.returns-in-None-clause-added
returns-in-None-clause-added c =
    on_ok c.push_written.result
    (link_added c.args.self.now c.number_of.new.self c.push_written.new.self c.args.link.now.residual c.in_ok-number.number c.args.link.now.cid c.same_cid.result c.in_ok-number.ensures.adds c.in_ok-number.ensures.number c.same_cid.ensures) c.push_written.ensures.added
