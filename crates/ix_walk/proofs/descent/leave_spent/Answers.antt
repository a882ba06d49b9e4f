use Rattle.std.proofs.Common.{◌∷◌, [], ◌++◌, ◌≡◌, List, refl, sym, ◌∙◌}
use Rattle.ix_walk.specs.declared.subtree.OpenNode.{OpenNode}
use Rattle.ix_walk.specs.declared.subtree.Frontier.{Frontier}
use Rattle.ix_walk.proofs.Frontiers.{steps_kept, step_spent, last_popped}
use Rattle.ix_walk.proofs.descent.leave_spent.Goals as goal

pub loop-opened-preserved-else-not-is_spent : goal.loop-opened-preserved-else-not-is_spent
loop-opened-preserved-else-not-is_spent c =
    let loop = c.loop-opened.frontier in
    let last = c.in-Some.opened.now in
    let rest : List OpenNode = c.pop.new.self.items in
    let new : Frontier = record { at = c.resume.new.self; next = loop.next; stack = c.pop.new.self } in
    let items : loop.stack.items ≡ rest ++ last ∷ [] = last_popped loop.stack.items rest c.deref.result.now last _ c.deref.ensures.value c.deref.ensures.len c.pop.ensures.rest c.in-Some.ensures.item.0 c.in-Some.ensures.item.1 in
    steps_kept c.args.frontier.now loop new c.loop-opened.invariant
    (step_spent loop new last rest c.loop-opened.invariant.next c.loop-opened.invariant.next items refl (sym c.is_spent.ensures ∙ c.if-not-is_spent.false) c.resume.ensures)
