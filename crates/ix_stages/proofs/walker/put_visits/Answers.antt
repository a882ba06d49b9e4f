use Rattle.std.proofs.Common.{rules, ◌∙◌, ℕ, drop, slice_get, Ok, sym, ap, arith}
use Rattle.ix_cid.proofs.Lists.{next_at, all_past}
use Rattle.ix_walk.specs.Visits.{visits_of}
use Rattle.ix_stages.specs.declared.pass_view.PassView.{PassView}
use Rattle.ix_car.specs.declared.sink.End.TheVariants.{Done}
use Rattle.ix_stages.proofs.Puts.{visit_is_next, close_is_allowed, given_is}
use Rattle.ix_stages.proofs.walker.put_visits.Goals as goal

pub put-requires : goal.put-requires
put-requires g c =
    let h = c.loop-item.invariant in
    let number = c.job-number.ensures in
    let gives = given_is c.loop-item.item-iterator c.next.new.self c.in-Some.item (Ok c.in-Ok-item.visit) c.in-Some.ensures.steps c.in-Ok-item.is in
    record {
      queue = search rules;
      going = h.going;
      next = visit_is_next c.course_of_jobs.ensures.visit c.args.shared.now.task.now.walks.now.store c.args.shared.now.task.now.walks.now.jobs c.job-number.result c.args.job.now c.in-Ok-item.visit c.next.new.self.visits c.loop-item.seat
          (ap (λ (n : ℕ). slice_get c.args.shared.now.task.now.walks.now.jobs n) number ∙ c.requires.job) h.job (h.course ∙ c.requires.ready.course) (sym h.left ∙ gives.1);
    }

pub loop-item-preserved : goal.loop-item-preserved
loop-item-preserved g c =
    let h = c.loop-item.invariant in
    let all = visits_of c.args.shared.now.task.now.walks.now.store c.job-number.result c.args.job.now in
    let gives = given_is c.loop-item.item-iterator c.next.new.self c.in-Some.item (Ok c.in-Ok-item.visit) c.in-Some.ensures.steps c.in-Ok-item.is in
    let next = next_at all c.next.new.self.visits c.loop-item.seat.next c.in-Ok-item.visit (sym h.left ∙ gives.1) in
    let same = c.put.ensures.same in
    let put = c.put.ensures.put in
    record {
      table = same.0 ∙ h.table;
      job = same.1 ∙ h.job;
      going = put.closed;
      course = ap (λ (v : PassView). v.course) put.pass ∙ h.course;
      within = (let lt = next.2 in let is = put.next in omega (arith, lt, is));
      left = sym (ap (λ (n : ℕ). drop n all) put.next ∙ next.1);
      limited = gives.2 ∙ h.limited;
    }

pub returns-clause-close : goal.returns-clause-close
returns-clause-close g c =
    let h = c.loop-item.invariant in
    let number = c.job-number.ensures in
    let all = visits_of c.args.shared.now.task.now.walks.now.store c.job-number.result c.args.job.now in
    let gives = c.in-None.ensures.steps in
    close_is_allowed c.course_of_jobs.ensures.close c.args.shared.now.task.now.walks.now.store c.args.shared.now.task.now.walks.now.jobs c.job-number.result c.args.job.now Done c.loop-item.seat
    (ap (λ (n : ℕ). slice_get c.args.shared.now.task.now.walks.now.jobs n) number ∙ c.requires.job) h.job (h.course ∙ c.requires.ready.course)
    (all_past all c.loop-item.seat.next (sym h.left ∙ gives.0) h.within, sym h.limited ∙ gives.1)
