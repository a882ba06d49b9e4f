use Rattle.std.proofs.Common.{◌∙◌, sym, ap, subst}
use Rattle.ix_store.specs.Store.{Blocks, position_of}
use Rattle.ix_walk.specs.declared.visit.Visit.{Visit}
use Rattle.ix_walk.specs.Visits.{is_malformed}
use Rattle.ix_prefetch.specs.Visiting.{IsVisitAt}
use Rattle.ix_prefetch.proofs.Tables.{named}
use Rattle.ix_prefetch.proofs.Visits.{is_visit_at}
use Rattle.ix_prefetch.proofs.visiting.Visiting.visit_written.Goals as goal

pub visit_pair-requires-clause-visit : goal.visit_pair-requires-clause-visit
visit_pair-requires-clause-visit c =
    let t = c.args.self.now.table.now in
    let cid = c.in_ok-cid.cid in
    let p = c.in-Some.pair in
    let place = c.find-block.ensures ∙ ap (λ (s : Blocks). position_of s cid) c.store-store.ensures in
    let fault = c.in-Some.ensures.pair.malformed ∙ ap (is_malformed t.store) (named t.store cid p.place (c.in-Some.ensures.here ∙ place)) in
    subst (λ (v : Visit). IsVisitAt t c.args.self.now.number c.args.self.now.seq v) (sym c.visit-visit.ensures)
    (is_visit_at t c.args.self.now.number c.args.self.now.seq c.args.depth cid c.find-block.result p.malformed place fault)
