use Rattle.std.proofs.Common.{sym, subst, refl}
use Rattle.ix_selector.specs.Pattern.{IsSelector}
use Rattle.ix_store.specs.Store.{Blocks}
use Rattle.ix_walk.proofs.Starts.{followed}
use Rattle.ix_receive.specs.declared.traversal.Traversal.{Traversal}
use Rattle.ix_receive.specs.Reception.{IsReceiving}
use Rattle.ix_receive.proofs.Receptions.{none-received}
use Rattle.ix_receive.proofs.receiver.Receiver.over.Goals as goal

pub invariant_of-result : goal.invariant_of-result
invariant_of-result c = λ _.
    let job = c.args.job.now in
    let is = followed job.selector (λ p. c.residual_is_the_rest.ensures.left job.selector p (subst IsSelector c.selector.ensures c.selector_is_one.ensures)) in
    let t : Traversal = record { expanded = c.new-2.result; links = c.new-3.result; roots = c.roots.result; visits = 0; skips = record { missing = c.new-4.result; absent = 0; unread = 0 } } in
    subst (λ (s : Blocks × Blocks). IsReceiving s.0 job c.args.allowed s.1 t) (sym c.new.ensures)
    (none-received c.args.base job c.args.allowed t c.are_sound.ensures is c.new-2.ensures.empty c.new-3.ensures.items c.roots.ensures refl c.new-4.ensures.empty refl refl)
