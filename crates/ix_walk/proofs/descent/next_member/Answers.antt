use Rattle.std.proofs.Common.{◌-◌, refl, subst, sym, ◌∙◌}
use Rattle.ix_selector.specs.Enters.{nth}
use Rattle.ix_walk.specs.declared.subtree.Children.TheVariants.{Members}
use Rattle.ix_walk.specs.Descent.{IsChild}
use Rattle.ix_walk.proofs.Openings.{passes_none, passed_part, members_within, member_item, member_splits, gives_some, passes_on, gives_none, not_none, members_spent}
use Rattle.ix_walk.proofs.descent.next_member.Goals as goal

pub loop-left-init : goal.loop-left-init
loop-left-init c = (refl, passes_none c.args.residual.now c.args.depth (Members c.args.count c.args.left.now) c.args.at.now)

pub overflow_sub-place : goal.overflow_sub-place
overflow_sub-place c =
    members_within c.args.count c.loop-left.left c.loop-left.at
    (passed_part c.args.residual.now c.args.depth (Members c.args.count c.args.left.now) (Members c.args.count c.loop-left.left) c.args.at.now c.loop-left.at c.loop-left.invariant.1 c.requires)

pub child_at-requires : goal.child_at-requires
child_at-requires c =
    member_item c.args.count c.loop-left.left c.loop-left.at (not_none c.loop-left.left c.loop-left-test.true)
    (passed_part c.args.residual.now c.args.depth (Members c.args.count c.args.left.now) (Members c.args.count c.loop-left.left) c.args.at.now c.loop-left.at c.loop-left.invariant.1 c.requires)

pub returns-then-is_some : goal.returns-then-is_some
returns-then-is_some c = (
  gives_some c.args.residual.now c.args.depth (Members c.args.count c.args.left.now) (Members c.args.count c.loop-left.left) (Members c.args.count (c.loop-left.left - 1)) c.args.at.now c.loop-left.at c.loop-left.at c.child_at.new.at
      (nth (c.args.count - c.loop-left.left)) c.in_ok-child.child (sym c.is_some.ensures ∙ c.if-is_some.true) c.loop-left.invariant.1 (member_splits c.args.count c.loop-left.left c.loop-left.at c.loop-left-test.true) (subst (λ p. IsChild p (nth (c.args.count - c.loop-left.left)) c.loop-left.at c.args.depth c.in_ok-child.child c.child_at.new.at) c.loop-left.invariant.0 c.in_ok-child.ensures.0),
  c.in_ok-child.ensures.1 ∙ c.loop-left.invariant.0,
)

pub loop-left-preserved : goal.loop-left-preserved
loop-left-preserved c = (
  c.in_ok-child.ensures.1 ∙ c.loop-left.invariant.0,
  passes_on c.args.residual.now c.args.depth (Members c.args.count c.args.left.now) (Members c.args.count c.loop-left.left) (Members c.args.count (c.loop-left.left - 1)) c.args.at.now c.loop-left.at c.loop-left.at c.child_at.new.at
      (nth (c.args.count - c.loop-left.left)) c.in_ok-child.child (sym c.is_some.ensures ∙ c.if-is_some.false) c.loop-left.invariant.1 (member_splits c.args.count c.loop-left.left c.loop-left.at c.loop-left-test.true) (subst (λ p. IsChild p (nth (c.args.count - c.loop-left.left)) c.loop-left.at c.args.depth c.in_ok-child.child c.child_at.new.at) c.loop-left.invariant.0 c.in_ok-child.ensures.0),
)

pub returns : goal.returns
returns c =
    (gives_none c.args.residual.now c.args.depth (Members c.args.count c.args.left.now) (Members c.args.count c.loop-left.left) c.args.at.now c.loop-left.at (members_spent c.args.count c.loop-left.left c.loop-left-test.false) c.loop-left.invariant.1, c.loop-left.invariant.0)
