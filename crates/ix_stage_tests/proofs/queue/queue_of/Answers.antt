use Rattle.std.proofs.lemmas.List.Elements.{All-same}
use Rattle.ix_stages.specs.Course.{course_of}
use Rattle.ix_stage_tests.specs.Walkers.{CanWalk, IsTaker}
use Rattle.ix_stage_tests.proofs.Walks.{new_jobs-walk, new_takers-take}
use Rattle.ix_stage_tests.proofs.queue.queue_of.Goals as goal

pub returns-clause-walkers : goal.returns-clause-walkers
returns-clause-walkers c =
    let q = c.in_ok-parts.parts.queue in
    All-same (CanWalk q (course_of c.args.walks.now.store.now c.args.walks.now.jobs.now)) _ _ c.in_ok-parts.ensures.jobs (new_jobs-walk q _ _ _)

pub returns-clause-tables : goal.returns-clause-tables
returns-clause-tables c =
    let q = c.in_ok-parts.parts.queue in
    All-same (IsTaker q) _ _ c.in_ok-parts.ensures.takers (new_takers-take q _ _ _)
