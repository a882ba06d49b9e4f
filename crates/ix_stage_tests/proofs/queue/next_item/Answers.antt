use Rattle.std.proofs.Common.{Result, Some, sym, subst, ◌∙◌}
use Rattle.ix_cid.proofs.Lists.{all_past}
use Rattle.ix_car.specs.declared.sink.End.TheVariants.{Done}
use Rattle.ix_walk.specs.declared.visit.Visit.{Visit}
use Rattle.ix_walk.specs.declared.fault.WalkStop.{WalkStop}
use Rattle.ix_walk.specs.WalkLeft.{GivesNext}
use Rattle.ix_stages.specs.Course.{course_visits}
use Rattle.ix_stages.specs.Seats.{IsNext}
use Rattle.ix_stage_tests.proofs.Walks.{visit_is_next, left_behind, close_is_next}
use Rattle.ix_stage_tests.proofs.queue.next_item.Goals as goal

pub returns-in-Some-Ok-clause-next : goal.returns-in-Some-Ok-clause-next
returns-in-Some-Ok-clause-next c =
    let steps = subst (λ (r : Result Visit WalkStop). GivesNext c.args.walk.now (Some r) c.next.new.self) c.in-Some-Ok.field-0-is c.in-Some-Ok.ensures.steps in
    visit_is_next c.args.seat.now c.in-Some-Ok.visit c.args.walk.now c.next.new.self c.requires steps

pub returns-in-Some-Ok-clause-left : goal.returns-in-Some-Ok-clause-left
returns-in-Some-Ok-clause-left c =
    let steps = subst (λ (r : Result Visit WalkStop). GivesNext c.args.walk.now (Some r) c.next.new.self) c.in-Some-Ok.field-0-is c.in-Some-Ok.ensures.steps in
    λ is. left_behind c.args.seat.now c.in-Some-Ok.visit c.args.walk.now c.next.new.self c.requires steps

pub returns-in-None-clause-next : goal.returns-in-None-clause-next
returns-in-None-clause-next c =
    let h = c.requires in
    let s = c.args.seat.now in
    let steps = c.in-None.ensures.steps in
    subst (λ x. IsNext s x) (sym c.close_of-in-None.ensures) (close_is_next s Done c.args.walk.now h (all_past (course_visits s.pass.course s.job) s.next (h.left ∙ steps.0) h.within, sym h.limited ∙ steps.1))
