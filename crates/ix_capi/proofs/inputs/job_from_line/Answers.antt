use Rattle.ix_api.specs.declared.object.Object.TheVariants as held
use Rattle.ix_api.specs.Failures.{IsJobFailure}
use Rattle.ix_capi.specs.Answers.{IsJobOf}
use Rattle.ix_capi.proofs.Made.{filled, refused, is_job_of}
use Rattle.ix_capi.proofs.inputs.job_from_line.Goals as goal

pub returns-in-Ok : goal.returns-in-Ok
returns-in-Ok c =
    filled (IsJobOf c.args.line.now) (IsJobFailure c.args.line.now) (held.Job c.of.result) c.args.job.now.pointed.value c.fill_with.new.handle.pointed.value c.fill_with.result c.fill_with.ensures
    (is_job_of c.args.line.now c.in-Ok.read c.of.result c.of.ensures c.in-Ok.ensures.job)

pub returns-in-Err : goal.returns-in-Err
returns-in-Err c =
    refused (IsJobOf c.args.line.now) (IsJobFailure c.args.line.now) c.in-Err.failure c.args.job.now.pointed.value c.refuse.new.handle.pointed.value c.refuse.result c.refuse.ensures c.in-Err.ensures.failed
