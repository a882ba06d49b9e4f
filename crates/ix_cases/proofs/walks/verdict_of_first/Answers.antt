use Rattle.std.proofs.Common.{subst, sym, ◌∙◌, ap, Some}
use Rattle.ix_walk.specs.WalkLeft.{WalkLeft, GivesNext}
use Rattle.ix_check.proofs.VisitsOf.{visit_next}
use Rattle.ix_cases.proofs.walks.verdict_of_first.Goals as goal

pub verdict_of_visit-requires : goal.verdict_of_visit-requires
verdict_of_visit-requires c =
    let given = subst (λ item. GivesNext c.in_ok-walk.walk (Some item) c.next.new.self) c.in-Some-Ok.field-0-is c.in-Some-Ok.ensures.steps in
    (visit_next c.args.store.now 0 0 c.args.job.now c.in-Some-Ok.visit c.next.new.self.visits (sym (ap (λ (w : WalkLeft). w.visits) c.in_ok-walk.ensures) ∙ given.1)).of_store
