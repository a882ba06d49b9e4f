use Rattle.std.proofs.Common.{◌∙◌, Bool, List, sym, subst}
use Rattle.std.specs.Prelude.{is_some}
use Rattle.ix_selector.specs.Residual.{Place}
use Rattle.ix_store.specs.Store.{Blocks}
use Rattle.ix_walk.specs.Walking.{is_barren}
use Rattle.ix_prefetch.specs.declared.state.ListLeft.{ListLeft}
use Rattle.ix_prefetch.specs.declared.state.TableState.{TableState}
use Rattle.ix_prefetch.specs.Expansions.{residual_in}
use Rattle.ix_prefetch.specs.TableState.{PutsList}
use Rattle.ix_prefetch.specs.Visiting.{EntersList}
use Rattle.ix_prefetch.proofs.Visits.{pair_cid, list_visited}
use Rattle.ix_prefetch.proofs.visiting.Visiting.visit_pair.Goals as goal

pub enters_list-requires-clause-barren : goal.enters_list-requires-clause-barren
enters_list-requires-clause-barren c b =
    let t = c.args.self.now.table.now in
    let named = pair_cid t c.args.self.now.number c.args.self.now.seq c.args.pair.residual (is_some c.args.state.now.expanded) c.args.visit c.args.pair c.requires.visit c.requires.pair in
    (λ i. is_barren (c.store.ensures i) (sym named i)) ∙ c.requires.pair.pair.barren b

pub returns : goal.returns
returns c =
    let t = c.args.self.now.table.now in
    let v = c.args.visit in
    let p = c.args.pair in
    let old = c.args.state.now in
    let expanded = c.enters_list.new.expanded in
    let mid : TableState = record old { expanded = expanded } in
    let enters = c.in_ok-enters.enters in
    list_visited t c.args.self.now.number c.args.self.now.seq p.residual (is_some old.expanded) v p old c.put_list.new.state expanded c.requires.visit c.requires.pair (c.in_ok-enters.ensures.live c.if-not-enters.false)
    (subst (λ (b : Bool). EntersList t.store (residual_in t p.residual) v.cid old.expanded expanded b) c.if-not-enters.false
    (subst (λ (s : Blocks). EntersList s (residual_in t p.residual) v.cid old.expanded expanded enters) c.store.ensures
    (subst (λ (r : List Place). EntersList c.store.result.now r v.cid old.expanded expanded enters) c.residual-residual.ensures.value c.in_ok-enters.ensures.enters)))
    (subst (λ (l : ListLeft). PutsList l mid c.put_list.new.state) c.list.ensures c.in_ok-put_list.ensures t (record { list = c.requires.within.list; waits = c.requires.within.waits }) c.requires.pair.pair.within c.requires.pair.pair.ordered)
