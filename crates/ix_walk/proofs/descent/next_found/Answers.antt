use Rattle.std.proofs.Common.{List, [], ◌∷◌, ◌++◌, ◌-◌, set, refl, sym, ◌∙◌, ap, subst}
use Rattle.std.specs.Prelude.{Some}
use Rattle.std.proofs.Math.ListN.{length-set}
use Rattle.ix_walk.specs.declared.subtree.Child.TheVariants.{Link}
use Rattle.ix_walk.specs.declared.subtree.OpenNode.{OpenNode}
use Rattle.ix_walk.specs.declared.subtree.Frontier.{Frontier}
use Rattle.ix_store.specs.Cursor.{resumed}
use Rattle.ix_walk.specs.Descent.{IsNext}
use Rattle.ix_walk.proofs.Frontiers.{steps_kept, steps_lighter, step_none, step_open, link_found, next_taken, IsLast, last_written, last_taken, last_part}
use Rattle.ix_walk.proofs.descent.next_found.Goals as goal

pub returns-in-Some-clause-found : goal.returns-in-Some-clause-found
returns-in-Some-clause-found c =
    let new : Frontier = record { at = c.args.frontier.now.at; next = c.take.new.self; stack = c.args.frontier.now.stack } in
    next_taken c.args.frontier.now new c.in-Some.found (sym c.take.ensures.value ∙ c.in-Some.is) c.take.ensures.after refl refl

pub next_child-requires : goal.next_child-requires
next_child-requires c =
    let o = c.in-Some-last_mut.opened.now in
    let xs = c.loop-opened.frontier.stack.items in
    let len = c.loop-opened.frontier.stack.len in
    let last : IsLast xs len o o = last_written xs len o o c.loop-opened.frontier.stack.ok.0 c.in-Some-last_mut.ensures.item.0 c.in-Some-last_mut.ensures.value in
    last_part c.args.frontier.now c.loop-opened.frontier o _ c.requires c.loop-opened.invariant last.was

pub returns-in-Some-Link-clause-found : goal.returns-in-Some-Link-clause-found
returns-in-Some-Link-clause-found c =
    let o = c.in-Some-last_mut.opened.now in
    let n = c.next_child.new.opened in
    let xs = c.loop-opened.frontier.stack.items in
    let len = c.loop-opened.frontier.stack.len in
    let last : IsLast xs len o n = last_written xs len o n c.loop-opened.frontier.stack.ok.0 c.in-Some-last_mut.ensures.item.0 c.in-Some-last_mut.ensures.value in
    let is : IsNext o.residual o.depth o.children c.loop-opened.frontier.at (Some (Link c.in-Some-Link.found)) n.children c.next_child.new.at =
    subst (λ e. IsNext o.residual o.depth o.children c.loop-opened.frontier.at e n.children c.next_child.new.at) (c.in-Some-Link.is ∙ ap (λ x. Some x) c.in-Some-Link.field-0-is) c.in_ok-found.ensures.next in
    let mid : Frontier = record { at = c.next_child.new.at; next = c.loop-opened.frontier.next; stack = record c.loop-opened.frontier.stack { items = set xs (len - 1) n; ok = (c.loop-opened.frontier.stack.ok.0 ∙ sym (simp length-set), c.loop-opened.frontier.stack.ok.1) } } in
    link_found c.args.frontier.now c.loop-opened.frontier mid c.leave_spent.new.frontier o n c.in-Some-Link.found _ c.loop-opened.invariant c.loop-opened.invariant.next last.was last.is
    is c.in_ok-found.ensures.same c.leave_spent.ensures.left

pub loop-opened-preserved-in-Continue-branch-4 : goal.loop-opened-preserved-in-Continue-branch-4
loop-opened-preserved-in-Continue-branch-4 c =
    let o = c.in-Some-last_mut.opened.now in
    let n = c.next_child.new.opened in
    let xs = c.loop-opened.frontier.stack.items in
    let len = c.loop-opened.frontier.stack.len in
    let last : IsLast xs len o n = last_written xs len o n c.loop-opened.frontier.stack.ok.0 c.in-Some-last_mut.ensures.item.0 c.in-Some-last_mut.ensures.value in
    let new : Frontier = record { at = c.next_child.new.at; next = c.loop-opened.frontier.next; stack = c.push.new.self } in
    let next = c.loop-opened.invariant.next in
    let items = c.in_ok-push-in-Some-Open.ensures.items ∙ ap (λ (l : List OpenNode). l ++ c.in-Some-Open.inner ∷ []) last.is in
    steps_kept c.args.frontier.now c.loop-opened.frontier new c.loop-opened.invariant
    (step_open c.loop-opened.frontier new o n c.in-Some-Open.inner _ _ next next last.was items
    (c.in-Some-Open.is ∙ ap (λ x. Some x) c.in-Some-Open.field-0-is) c.in_ok-found.ensures.next c.in_ok-found.ensures.same)

pub loop-opened-smaller-in-Continue-branch-4 : goal.loop-opened-smaller-in-Continue-branch-4
loop-opened-smaller-in-Continue-branch-4 c =
    let o = c.in-Some-last_mut.opened.now in
    let n = c.next_child.new.opened in
    let xs = c.loop-opened.frontier.stack.items in
    let len = c.loop-opened.frontier.stack.len in
    let last : IsLast xs len o n = last_written xs len o n c.loop-opened.frontier.stack.ok.0 c.in-Some-last_mut.ensures.item.0 c.in-Some-last_mut.ensures.value in
    let new : Frontier = record { at = c.next_child.new.at; next = c.loop-opened.frontier.next; stack = c.push.new.self } in
    let next = c.loop-opened.invariant.next in
    let items = c.in_ok-push-in-Some-Open.ensures.items ∙ ap (λ (l : List OpenNode). l ++ c.in-Some-Open.inner ∷ []) last.is in
    steps_lighter c.args.frontier.now c.loop-opened.frontier new c.requires c.loop-opened.invariant
    (step_open c.loop-opened.frontier new o n c.in-Some-Open.inner _ _ next next last.was items
    (c.in-Some-Open.is ∙ ap (λ x. Some x) c.in-Some-Open.field-0-is) c.in_ok-found.ensures.next c.in_ok-found.ensures.same)

pub loop-opened-preserved-in-Some-pop : goal.loop-opened-preserved-in-Some-pop
loop-opened-preserved-in-Some-pop c =
    let o = c.in-Some-last_mut.opened.now in
    let n = c.next_child.new.opened in
    let xs = c.loop-opened.frontier.stack.items in
    let len = c.loop-opened.frontier.stack.len in
    let last : IsLast xs len o n = last_written xs len o n c.loop-opened.frontier.stack.ok.0 c.in-Some-last_mut.ensures.item.0 c.in-Some-last_mut.ensures.value in
    let new : Frontier = record { at = c.resume.new.self; next = c.loop-opened.frontier.next; stack = c.pop.new.self } in
    let next = c.loop-opened.invariant.next in
    let taken = last_taken xs c.pop.new.self.items len o n c.in-Some-pop.ended last c.in-Some-pop.ensures.items in
    let back = c.resume.ensures ∙ ap (λ (p : OpenNode). resumed p.resume_at c.next_child.new.at) (sym taken.1) in
    steps_kept c.args.frontier.now c.loop-opened.frontier new c.loop-opened.invariant
    (step_none c.loop-opened.frontier new o n _ c.next_child.new.at c.pop.new.self.items next next taken.0 refl c.in-None.is c.in_ok-found.ensures.next
    c.in_ok-found.ensures.same back)

pub loop-opened-smaller-in-Some-pop : goal.loop-opened-smaller-in-Some-pop
loop-opened-smaller-in-Some-pop c =
    let o = c.in-Some-last_mut.opened.now in
    let n = c.next_child.new.opened in
    let xs = c.loop-opened.frontier.stack.items in
    let len = c.loop-opened.frontier.stack.len in
    let last : IsLast xs len o n = last_written xs len o n c.loop-opened.frontier.stack.ok.0 c.in-Some-last_mut.ensures.item.0 c.in-Some-last_mut.ensures.value in
    let new : Frontier = record { at = c.resume.new.self; next = c.loop-opened.frontier.next; stack = c.pop.new.self } in
    let next = c.loop-opened.invariant.next in
    let taken = last_taken xs c.pop.new.self.items len o n c.in-Some-pop.ended last c.in-Some-pop.ensures.items in
    let back = c.resume.ensures ∙ ap (λ (p : OpenNode). resumed p.resume_at c.next_child.new.at) (sym taken.1) in
    steps_lighter c.args.frontier.now c.loop-opened.frontier new c.requires c.loop-opened.invariant
    (step_none c.loop-opened.frontier new o n _ c.next_child.new.at c.pop.new.self.items next next taken.0 refl c.in-None.is c.in_ok-found.ensures.next
    c.in_ok-found.ensures.same back)
