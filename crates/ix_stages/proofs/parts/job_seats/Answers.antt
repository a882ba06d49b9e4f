use Rattle.std.proofs.Common.{◌≡◌, ◌≤◌, ◌+◌, List, [], ◌∷◌, ◌++◌, length, ap, sym, subst, ◌∙◌}
use Rattle.crossbeam_queue.specs.Passes.{view}
use Rattle.ix_stages.specs.declared.course.JobVisits.{JobVisits}
use Rattle.ix_stages.specs.declared.pass_view.PassView.{PassView}
use Rattle.ix_stages.specs.Course.{course_visits}
use Rattle.ix_stages.specs.Seats.{maker_pass, new_job}
use Rattle.ix_stages.proofs.SeatMoves.{IsCourse-at, map-count_up}
use Rattle.ix_stages.proofs.parts.job_seats.Goals as goal

pub job_seat-requires-clause-course : goal.job_seat-requires-clause-course
job_seat-requires-clause-course c =
    let e : (view c.loop-job.pass).course ≡ (view c.args.pass.now).course = ap (λ (v : PassView). v.course) c.loop-job.invariant.1 in
    subst (λ (k : List JobVisits). length (course_visits k c.loop-job.job) ≤ 4294967295) (sym e) (IsCourse-at (view c.args.pass.now).course c.loop-job.job c.requires.course)

pub loop-job-preserved : goal.loop-job-preserved
loop-job-preserved c =
    let h = c.loop-job.invariant in
    let e = c.job_seat.ensures in
    let v = view c.args.pass.now in
    let j = c.loop-job.job in
    let t = c.args.ruled.now.table.shared.table_id in
    let k : (view c.loop-job.pass).course ≡ v.course = ap (λ (v : PassView). v.course) h.1 in
    let n : (view c.loop-job.pass).all ≡ v.all = ap (λ (v : PassView). v.all) h.1 in
    let seat : c.job_seat.result ≡ new_job t v.course v.all j = e.seat ∙ (λ i. new_job t (k i) (n i) j) in
    let items : c.push.new.self.items ≡ c.loop-job.seats.items ++ c.job_seat.result ∷ [] = c.in_ok-push.ensures.items in (
      (e.made.0.0 ∙ h.0.0, e.made.0.1 ∙ h.0.1, e.made.0.2 ∙ h.0.2),
      (e.made.1 ∙ (λ i. maker_pass (k i) (n i) (j + 1))),
      items ∙ ((λ i. h.2 i ++ seat i ∷ []) ∙ sym (map-count_up (new_job t v.course v.all) j)),
    )
