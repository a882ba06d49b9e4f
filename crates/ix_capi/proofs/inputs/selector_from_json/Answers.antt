use Rattle.ix_api.specs.declared.object.Object.TheVariants as held
use Rattle.ix_api.specs.Failures.{IsSelectorFailure}
use Rattle.ix_capi.specs.Answers.{IsSelectorTextOf}
use Rattle.ix_capi.proofs.Made.{filled, refused}
use Rattle.ix_capi.proofs.inputs.selector_from_json.Goals as goal

pub returns-in-Ok : goal.returns-in-Ok
returns-in-Ok c =
    filled (IsSelectorTextOf c.args.json.now) (IsSelectorFailure c.args.json.now) (held.Text c.in-Ok.hex) c.args.text.now.pointed.value c.fill_with.new.handle.pointed.value c.fill_with.result c.fill_with.ensures c.in-Ok.ensures.selector

pub returns-in-Err : goal.returns-in-Err
returns-in-Err c =
    refused (IsSelectorTextOf c.args.json.now) (IsSelectorFailure c.args.json.now) c.in-Err.failure c.args.text.now.pointed.value c.refuse.new.handle.pointed.value c.refuse.result c.refuse.ensures c.in-Err.ensures.failed
