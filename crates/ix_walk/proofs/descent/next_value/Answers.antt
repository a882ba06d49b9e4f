use Rattle.std.proofs.Common.{◌≡◌, ℕ, ◌-◌, List, refl, sym, ◌∙◌, ap, subst}
use Rattle.std.specs.Prelude.{None, Ok}
use Rattle.ix_cbor.specs.Reading.{key_at}
use Rattle.ix_selector.specs.Enters.{key}
use Rattle.ix_walk.specs.declared.subtree.Children.TheVariants.{Values}
use Rattle.ix_walk.specs.Descent.{IsKey, IsChild}
use Rattle.ix_walk.proofs.Openings.{passes_none, passed_part, value_key, value_item, value_splits, gives_some, passes_on, gives_none, not_none, values_spent}
use Rattle.ix_walk.proofs.descent.next_value.Goals as goal

pub loop-left-init : goal.loop-left-init
loop-left-init c = (refl, passes_none c.args.residual.now c.args.depth (Values c.args.left.now) c.args.at.now)

pub key_at-requires : goal.key_at-requires
key_at-requires c =
    subst IsKey (sym c.bytes.ensures)
    (value_key c.loop-left.left c.loop-left.at (not_none c.loop-left.left c.loop-left-test.true)
    (passed_part c.args.residual.now c.args.depth (Values c.args.left.now) (Values c.loop-left.left) c.args.at.now c.loop-left.at c.loop-left.invariant.1 c.requires))

pub child_at-requires : goal.child_at-requires
child_at-requires c =
    let named : key_at None c.loop-left.at ≡ Ok (c.key_at.result.0.now, c.seek.new.self) = ap (key_at None) (sym c.bytes.ensures) ∙ c.key_at.ensures.exact ∙ ap (λ (l : List ℕ). Ok (c.key_at.result.0.now, l)) (sym c.seek.ensures) in
    value_item c.loop-left.left c.loop-left.at c.key_at.result.0.now c.seek.new.self (not_none c.loop-left.left c.loop-left-test.true)
    (passed_part c.args.residual.now c.args.depth (Values c.args.left.now) (Values c.loop-left.left) c.args.at.now c.loop-left.at c.loop-left.invariant.1 c.requires) named

pub returns-then-is_some : goal.returns-then-is_some
returns-then-is_some c =
    let named : key_at None c.loop-left.at ≡ Ok (c.key_at.result.0.now, c.seek.new.self) = ap (key_at None) (sym c.bytes.ensures) ∙ c.key_at.ensures.exact ∙ ap (λ (l : List ℕ). Ok (c.key_at.result.0.now, l)) (sym c.seek.ensures) in (
      gives_some c.args.residual.now c.args.depth (Values c.args.left.now) (Values c.loop-left.left) (Values (c.loop-left.left - 1)) c.args.at.now c.loop-left.at c.seek.new.self c.child_at.new.at
          (key c.key_at.result.0.now) c.in_ok-child.child (sym c.is_some.ensures ∙ c.if-is_some.true) c.loop-left.invariant.1 (value_splits c.loop-left.left c.loop-left.at c.key_at.result.0.now c.seek.new.self c.loop-left-test.true named) (subst (λ p. IsChild p (key c.key_at.result.0.now) c.seek.new.self c.args.depth c.in_ok-child.child c.child_at.new.at) c.loop-left.invariant.0 c.in_ok-child.ensures.0),
      c.in_ok-child.ensures.1 ∙ c.loop-left.invariant.0,
    )

pub loop-left-preserved : goal.loop-left-preserved
loop-left-preserved c =
    let named : key_at None c.loop-left.at ≡ Ok (c.key_at.result.0.now, c.seek.new.self) = ap (key_at None) (sym c.bytes.ensures) ∙ c.key_at.ensures.exact ∙ ap (λ (l : List ℕ). Ok (c.key_at.result.0.now, l)) (sym c.seek.ensures) in (
      c.in_ok-child.ensures.1 ∙ c.loop-left.invariant.0,
      passes_on c.args.residual.now c.args.depth (Values c.args.left.now) (Values c.loop-left.left) (Values (c.loop-left.left - 1)) c.args.at.now c.loop-left.at c.seek.new.self c.child_at.new.at
          (key c.key_at.result.0.now) c.in_ok-child.child (sym c.is_some.ensures ∙ c.if-is_some.false) c.loop-left.invariant.1 (value_splits c.loop-left.left c.loop-left.at c.key_at.result.0.now c.seek.new.self c.loop-left-test.true named) (subst (λ p. IsChild p (key c.key_at.result.0.now) c.seek.new.self c.args.depth c.in_ok-child.child c.child_at.new.at) c.loop-left.invariant.0 c.in_ok-child.ensures.0),
    )

pub returns : goal.returns
returns c =
    (gives_none c.args.residual.now c.args.depth (Values c.args.left.now) (Values c.loop-left.left) c.args.at.now c.loop-left.at (values_spent c.loop-left.left c.loop-left-test.false) c.loop-left.invariant.1, c.loop-left.invariant.0)
