use Rattle.std.proofs.Common.{sym}
use Rattle.std.proofs.lemmas.Result.{err_from_is_err_and}
use Rattle.ix_walk.specs.JobMeaning.{JobMeaning}
use Rattle.ix_cli_io.specs.Failure.{output_path, paths_of}
use Rattle.ix_cli_io.proofs.Paths.{Contains-map, failure_of_one}
use Rattle.ix_cli_io.proofs.outputs.make_outputs.Goals as goal

pub returns-in_err-check_job : goal.returns-in_err-check_job
returns-in_err-check_job g c =
    let folder = c.args.folder.now in
    let jobs = c.args.jobs.now in
    let job = c.job-item.result in
    let path = λ (j : JobMeaning). output_path folder j.name in
    let p = err_from_is_err_and c.from_residual-in_err-check_job.result c.from_residual-in_err-check_job.ensures.1 in
    let among = Contains-map path jobs job (c.loop-job.job-index, c.loop-job-test.true, sym c.job-item.is) in
    rw (p.1, p.2) (record { each = tt; paths = tt; refused = failure_of_one (paths_of folder jobs) (path job) c.in_err-check_job.field-0.0 among c.in_err-check_job.ensures })

pub returns-in-Err : goal.returns-in-Err
returns-in-Err g c =
    let folder = c.args.folder.now in
    let jobs = c.args.jobs.now in
    let job = c.job-item-in-loop-job-2.result in
    let path = λ (j : JobMeaning). output_path folder j.name in
    let among = Contains-map path jobs job (c.loop-job-2.job-index, c.loop-job-2-test.true, sym c.job-item-in-loop-job-2.is) in
    record { each = tt; paths = tt; refused = failure_of_one (paths_of folder jobs) (path job) c.in-Err.failure among c.in-Err.ensures.refused }
