use Rattle.std.proofs.Common.{Bool, sym, subst}
use Rattle.ix_prefetch.specs.Visiting.{EntersList}
use Rattle.ix_prefetch.proofs.Visits.{enters_by}
use Rattle.ix_prefetch.proofs.visiting.enters_list.Goals as goal

pub returns-clause-enters : goal.returns-clause-enters
returns-clause-enters c =
    subst (λ (b : Bool). EntersList c.args.store.now c.args.residual.now c.args.visit.now.cid c.args.expanded.now c.bytes_to_expand.new.expanded b) (sym c.is_some.ensures)
    (enters_by c.args.store.now c.args.residual.now c.args.visit.now.cid c.args.expanded.now c.bytes_to_expand.new.expanded c.in_ok-bytes.bytes c.in_ok-bytes.ensures.goes)
