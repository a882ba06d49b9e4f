use Rattle.std.proofs.Common.{ℕ, List, refl, sym, ◌∙◌, ap, subst}
use Rattle.std.specs.Prelude.{Some, None}
use Rattle.ix_walk.specs.declared.subtree.Child.TheVariants.{Link, Open}
use Rattle.ix_walk.specs.declared.subtree.Frontier.{Frontier}
use Rattle.ix_walk.specs.Descent.{IsNode}
use Rattle.ix_walk.specs.Arriving.{Roots}
use Rattle.ix_walk.proofs.Roots.{roots_flat, roots_link, roots_open}
use Rattle.ix_walk.proofs.visiting.enter_block.Goals as goal

pub returns-in-Some-Link : goal.returns-in-Some-Link
returns-in-Some-Link c =
    let new : Frontier = record { at = c.args.frontier.now.at; next = Some c.in-Some-Link.found; stack = c.args.frontier.now.stack } in
    let at = c.node_at.new.at in
    let node : IsNode c.args.residual c.in-Some.at c.args.depth (Some (Link c.in-Some-Link.found)) at =
    subst (λ o. IsNode c.args.residual c.in-Some.at c.args.depth o at) (c.in-Some-Link.is ∙ ap (λ x. Some x) c.in-Some-Link.field-0-is) c.node_at.ensures in
    subst (λ b. Roots c.args.residual b c.args.depth c.args.frontier.now new) (sym c.in-Some.is)
    (roots_link c.args.residual c.in-Some.at at c.args.depth c.in-Some-Link.found c.args.frontier.now new node c.requires.next refl refl refl)

pub returns-in_ok-push-in-Some-Open : goal.returns-in_ok-push-in-Some-Open
returns-in_ok-push-in-Some-Open c =
    let o = c.in-Some-Open.root in
    let at = c.node_at.new.at in
    let new : Frontier = record { at = at; next = c.args.frontier.now.next; stack = c.push.new.self } in
    let node : IsNode c.args.residual c.in-Some.at c.args.depth (Some (Open c.in-Some-Open.root)) at =
    subst (λ o. IsNode c.args.residual c.in-Some.at c.args.depth o at) (c.in-Some-Open.is ∙ ap (λ x. Some x) c.in-Some-Open.field-0-is) c.node_at.ensures in
    subst (λ b. Roots c.args.residual b c.args.depth c.args.frontier.now new) (sym c.in-Some.is)
    (roots_open c.args.residual c.in-Some.at at c.args.depth o _ c.args.frontier.now new node c.requires.next c.requires.next refl c.in_ok-push-in-Some-Open.ensures.items
    (ap (λ (l : List ℕ). record { residual = o.residual; children = o.children; depth = o.depth; resume_at = Some l }) c.duplicate.ensures))

pub returns-in-None : goal.returns-in-None
returns-in-None c =
    let at = c.node_at.new.at in
    let node : IsNode c.args.residual c.in-Some.at c.args.depth None at = subst (λ o. IsNode c.args.residual c.in-Some.at c.args.depth o at) c.in-None.is c.node_at.ensures in
    subst (λ b. Roots c.args.residual b c.args.depth c.args.frontier.now c.args.frontier.now) (sym c.in-Some.is)
    (roots_flat c.args.residual c.in-Some.at at c.args.depth c.args.frontier.now c.args.frontier.now node refl)
