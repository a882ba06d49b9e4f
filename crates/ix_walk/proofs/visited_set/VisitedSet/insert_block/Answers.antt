use Rattle.std.proofs.Common.{◌≡◌, List, ℕ, refl, sym, ◌∙◌, ap, subst}
use Rattle.std.specs.Prelude.{Option, Some, None, IsSome}
use Rattle.std.specs.Option.{option_copied_mut}
use Rattle.std.specs.BTreeMap.{BTreeMap, get}
use Rattle.std.specs.BTreeSet.{BTreeSet}
use Rattle.ix_selector.specs.Residual.{Place}
use Rattle.ix_selector.specs.Behind.{residual_order}
use Rattle.ix_walk.proofs.Going.{Keeps, noted_among, noted_alone}
use Rattle.ix_walk.proofs.visited_set.VisitedSet.insert_block.Goals as goal

pub returns-in-Some : goal.returns-in-Some
returns-in-Some c = λ cid.
    let old = c.args.self.now in
    let places = c.args.residual.now in
    let s = c.in-Some.places.now in
    let t = c.insert.new.self in
    let had : get residual_order old.blocks places ≡ Some s = sym c.get_mut.ensures.value ∙ ap option_copied_mut c.in-Some.is in
    let n = c.in_ok-insert.ensures in
    noted_among old (c.get_mut.follows.lender t) c.args.place cid places s t c.in_ok-insert.field-0 c.requires had ((c.get_mut.follows.holds t).3 (subst (λ (o : Option (BTreeSet ℕ)). IsSome o) (sym had) refl)) n.added n.updates n.unchanged

pub returns : goal.returns
returns c = λ cid.
    let old = c.args.self.now in
    let places = c.args.residual.now in
    let t = c.insert-2.new.self in
    let blocks = c.insert-3.new.self in
    let had : get residual_order old.blocks places ≡ None = sym c.get_mut.ensures.value ∙ ap option_copied_mut c.in_default.is in
    let keeps : Keeps old.blocks blocks places t =
    subst (λ (m : BTreeMap (List Place) (BTreeSet ℕ)). Keeps m blocks places t) c.get_mut.follows.holds-at-none
    (subst (λ (r : List Place). Keeps c.get_mut.follows.lender-at-none blocks r t) c.in_ok-try_clone.ensures.same c.in_ok-insert-3.ensures.updates) in
    noted_alone old blocks c.args.place cid places c.new-places.result t c.requires had keeps c.new-places.ensures.empty c.in_ok-insert-2.ensures.updates
