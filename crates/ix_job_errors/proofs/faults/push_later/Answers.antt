use Rattle.std.proofs.Common.{◌≡◌, ◌+◌, ◌<◌, List, [], length, ap, refl, arith, rules}
use Rattle.ix_walk.specs.JobMeaning.{JobMeaning}
use Rattle.ix_jobs.proofs.LinesInTurn.{rest-shorter}
use Rattle.ix_jobs.specs.Jobs.{jobs_up_to}
use Rattle.ix_job_errors.specs.Faults.{jobs_after}
use Rattle.ix_job_errors.proofs.Turns.{a_line_more, all_told}
use Rattle.ix_job_errors.proofs.faults.push_later.Goals as goal

pub loop-rest-init : goal.loop-rest-init
loop-rest-init c = record { within = search rules; goes_on = ([], record { names_are = search rules }, refl) }

pub loop-rest-preserved : goal.loop-rest-preserved
loop-rest-preserved c =
    let some : 0 < length c.loop-rest.rest.now = search rules in
    let so_far = c.loop-rest.invariant.goes_on in
    let before : List JobMeaning = so_far.0 in
    let behind = c.in_ok-kind.ensures before so_far.1 in
    record {
      within = omega (arith, c.loop-rest.invariant.within, rest-shorter c.loop-rest.rest.now some, ap length c.split_line.ensures.rest);
      goes_on = (
        jobs_after before (jobs_up_to c.args.greatest 1000 c.split_line.result.0.now),
        behind.named,
        a_line_more c.args.greatest c.args.first (c.loop-rest.number + 1) before c.loop-rest.faults.items c.push_reported.new.faults.items _ c.loop-rest.rest.now c.split_line.result.0.now c.split_line.result.1.now c.in_ok-kind.kind some c.split_line.ensures.line
            c.split_line.ensures.rest behind.is c.in_ok-push_reported.ensures so_far.2,
      );
    }

pub returns : goal.returns
returns c =
    let so_far = c.loop-rest.invariant.goes_on in
    let none : length c.loop-rest.rest.now ≡ 0 = search rules in
    all_told c.args.greatest c.args.first (c.loop-rest.number + 1) so_far.0 c.loop-rest.faults.items _ c.loop-rest.rest.now none so_far.2
