use Rattle.std.proofs.Common.{◌≡◌, ◌∙◌, map, slice_get, sym, ap, subst}
use Rattle.std.specs.Prelude.{Some, IfOk}
use Rattle.ix_store.specs.Store.{Blocks, position_of}
use Rattle.ix_walk.specs.declared.subtree.PendingLink.{PendingLink}
use Rattle.ix_walk.specs.declared.visit.Visit.{Visit}
use Rattle.ix_walk.specs.Visits.{is_malformed}
use Rattle.ix_walk.specs.Walking.{waiting}
use Rattle.ix_verdict.specs.Needed.{NeedsBlock}
use Rattle.ix_prefetch.specs.Expansions.{residual_in}
use Rattle.ix_prefetch.specs.TableState.{IsVisited}
use Rattle.ix_prefetch.specs.Visiting.{IsVisitAt}
use Rattle.ix_prefetch.proofs.Tables.{named, cid_is}
use Rattle.ix_prefetch.proofs.Visits.{is_visit_at}
use Rattle.ix_prefetch.proofs.visiting.Visiting.visit_stored.Goals as goal

pub read_stored-bytes-requires-clause-needed : goal.read_stored-bytes-requires-clause-needed
read_stored-bytes-requires-clause-needed c =
    let t = c.args.self.now.table.now in
    let at = subst (λ (s : Blocks). slice_get (map (λ e. e.0) s) c.args.place ≡ Some c.in_ok-cid.cid) c.store-store.ensures c.in_ok-cid.ensures in
    subst NeedsBlock (sym (cid_is t.store c.args.place c.in_ok-cid.cid c.requires.place.0 at)) c.requires.place.1

pub visit_pair-requires-clause-visit : goal.visit_pair-requires-clause-visit
visit_pair-requires-clause-visit c =
    let t = c.args.self.now.table.now in
    let cid = c.in_ok-cid.cid in
    let p = c.in-Some.pair in
    let place = c.find_near-block.ensures ∙ ap (λ (s : Blocks). position_of s cid) c.store-store.ensures in
    let fault = c.in-Some.ensures.pair.malformed ∙ ap (is_malformed t.store) (named t.store cid p.place (c.in-Some.ensures.here ∙ place)) in
    subst (λ (v : Visit). IsVisitAt t c.args.self.now.number c.args.self.now.seq v) (sym c.visit-visit.ensures)
    (is_visit_at t c.args.self.now.number c.args.self.now.seq c.args.depth cid c.find_near-block.result p.malformed place fault)

pub returns-in-Some : goal.returns-in-Some
returns-in-Some c =
    let t = c.args.self.now.table.now in
    let at = subst (λ (s : Blocks). slice_get (map (λ e. e.0) s) c.args.place ≡ Some c.in_ok-cid.cid) c.store-store.ensures c.in_ok-cid.ensures in
    let cid = cid_is t.store c.args.place c.in_ok-cid.cid c.requires.place.0 at in
    subst (λ (f : PendingLink). IfOk c.visit_pair.result (λ v. IsVisited t c.args.self.now.number c.args.self.now.seq f c.args.left.now v c.visit_pair.new.state))
    (λ i. waiting (residual_in t (c.in-Some.ensures.number i)) (ap (λ (v : Visit). v.depth) c.visit-visit.ensures i) ((ap (λ (v : Visit). v.cid) c.visit-visit.ensures ∙ cid) i)) c.visit_pair.ensures

pub returns : goal.returns
returns c =
    let t = c.args.self.now.table.now in
    let at = subst (λ (s : Blocks). slice_get (map (λ e. e.0) s) c.args.place ≡ Some c.in_ok-cid.cid) c.store-store.ensures c.in_ok-cid.ensures in
    let cid = cid_is t.store c.args.place c.in_ok-cid.cid c.requires.place.0 at in
    subst (λ (f : PendingLink). IfOk c.visit_bytes.result (λ v. IsVisited t c.args.self.now.number c.args.self.now.seq f c.args.left.now v c.visit_bytes.new.state))
    (λ i. waiting (c.residual.ensures.value i) (ap (λ (v : Visit). v.depth) c.visit-visit-2.ensures i) ((ap (λ (v : Visit). v.cid) c.visit-visit-2.ensures ∙ cid) i)) c.visit_bytes.ensures
