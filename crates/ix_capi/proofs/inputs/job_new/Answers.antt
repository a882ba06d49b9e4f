use Rattle.ix_api.specs.declared.object.Object.TheVariants as held
use Rattle.ix_api.specs.Failures.{IsPartsFailure}
use Rattle.ix_capi.specs.Answers.{IsJobOfParts}
use Rattle.ix_capi.proofs.Made.{filled, refused, is_job_of_parts}
use Rattle.ix_capi.proofs.inputs.job_new.Goals as goal

pub returns-in-Ok : goal.returns-in-Ok
returns-in-Ok c =
    filled (IsJobOfParts c.args.roots.now c.args.selector.now c.args.limit) (IsPartsFailure c.args.roots.now c.args.selector.now c.args.limit) (held.Job c.of.result) c.args.job.now.pointed.value c.fill_with.new.handle.pointed.value c.fill_with.result c.fill_with.ensures
    (is_job_of_parts c.args.roots.now c.args.selector.now c.args.limit c.in-Ok.made c.of.result c.of.ensures c.in-Ok.ensures.job)

pub returns-in-Err : goal.returns-in-Err
returns-in-Err c =
    refused (IsJobOfParts c.args.roots.now c.args.selector.now c.args.limit) (IsPartsFailure c.args.roots.now c.args.selector.now c.args.limit) c.in-Err.failure c.args.job.now.pointed.value c.refuse.new.handle.pointed.value c.refuse.result c.refuse.ensures c.in-Err.ensures.failed
