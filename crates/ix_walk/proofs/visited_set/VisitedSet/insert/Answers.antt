use Rattle.std.proofs.Common.{List, ℕ, sym, ◌∙◌, subst}
use Rattle.std.specs.Prelude.{Option, None}
use Rattle.std.specs.Result.{IfOk}
use Rattle.ix_selector.specs.Residual.{Place}
use Rattle.ix_walk.specs.declared.visited_set.VisitedSet.{VisitedSet}
use Rattle.ix_walk.specs.VisitedSet.{IsNoted}
use Rattle.ix_walk.proofs.Going.{with_others, noted_other}
use Rattle.ix_walk.proofs.visited_set.VisitedSet.insert.Goals as goal

pub returns-in-Some : goal.returns-in-Some
returns-in-Some c =
    subst (λ (b : Option ℕ). IfOk c.insert_place.result (IsNoted c.args.self.now c.insert_place.new.self b c.args.cid.now c.args.residual.now)) (sym c.in-Some.is)
    (c.insert_place.ensures c.args.cid.now c.args.residual.now (sym c.is_same.ensures ∙ c.if-is_same.true))

pub returns-in-Some-2 : goal.returns-in-Some-2
returns-in-Some-2 c =
    subst (λ (b : Option ℕ). IfOk c.insert_block.result (IsNoted c.args.self.now c.insert_block.new.self b c.args.cid.now c.args.residual.now)) (sym c.in-Some-2.is) (c.insert_block.ensures c.args.cid.now)

pub returns-in_ok-insert-in-None : goal.returns-in_ok-insert-in-None
returns-in_ok-insert-in-None c =
    let old = c.args.self.now in
    let new : VisitedSet = with_others old c.insert.new.self in
    let n = c.in_ok-insert-in-None.ensures in
    subst (λ (r : List Place). IsNoted old new c.args.block c.args.cid.now r c.in_ok-insert-in-None.field-0) c.in_ok-residual-in-None.ensures.same
    (subst (λ (b : Option ℕ). IsNoted old new b c.args.cid.now c.in_ok-residual-in-None.residual c.in_ok-insert-in-None.field-0) (sym c.in-None.is)
    (subst (λ (d : List ℕ). IsNoted old new None d c.in_ok-residual-in-None.residual c.in_ok-insert-in-None.field-0) c.in_ok-cid-in-None.ensures.same
    (noted_other old c.insert.new.self c.in_ok-cid-in-None.cid c.in_ok-residual-in-None.residual c.in_ok-insert-in-None.field-0 n.added n.updates n.unchanged)))
