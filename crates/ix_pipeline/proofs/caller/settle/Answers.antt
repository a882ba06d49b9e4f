use Rattle.std.proofs.Common.{List, subst}
use Rattle.ix_stages.specs.declared.course.JobVisits.{JobVisits}
use Rattle.ix_stages.specs.Course.{IsWellTaken}
use Rattle.ix_stages.specs.Settled.{taken_by}
use Rattle.ix_stages.specs.Shared.{store_of, jobs_of}
use Rattle.ix_pipeline.proofs.caller.settle.Goals as goal

pub returns : goal.returns
returns g c =
    let store = store_of c.args.shared.now in
    let jobs = jobs_of c.args.shared.now in
    let taken = taken_by c.args.takers.items in
    let well = subst (λ (k : List JobVisits). IsWellTaken k taken) c.requires.course c.settle.ensures.good in
    λ sent answers. c.sent_for_good.ensures store jobs taken sent (c.well_taken_is_good.ensures store jobs taken c.requires.limits well) answers
