use Rattle.std.proofs.Common.{◌≡◌, ℕ, ap, ◌∙◌}
use Rattle.std.proofs.lemmas.Result.{IfOk-weaker}
use Rattle.ix_walk.specs.Visits.{whole_walk}
use Rattle.ix_stage_tests.specs.Walkers.{IsLeft}
use Rattle.ix_stage_tests.proofs.Walks.{begins_left}
use Rattle.ix_stage_tests.proofs.queue.walk_of.Goals as goal

pub returns-in-Some : goal.returns-in-Some
returns-in-Some c =
    let laws = c.course_of_jobs.ensures in
    let s = c.args.seat.now in
    let store = c.args.walks.now.store.now in
    let job = c.in-Some.job.now in
    IfOk-weaker c.new.result (λ w. w ≡ whole_walk store c.job.result job) (IsLeft s) (λ w is. begins_left laws.sized laws.visits laws.over laws.visit store c.args.walks.now.jobs.now s job w c.requires.0 c.requires.1 c.in-Some.ensures (is ∙ ap (λ (n : ℕ). whole_walk store n job) c.job.ensures)) c.new.ensures
