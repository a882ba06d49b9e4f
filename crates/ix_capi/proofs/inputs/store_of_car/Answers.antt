use Rattle.std.proofs.Common.{refl}
use Rattle.ix_api.specs.declared.object.Object.TheVariants as held
use Rattle.ix_api.specs.Failures.{IsStoreFailure}
use Rattle.ix_capi.specs.Answers.{IsStoreOf}
use Rattle.ix_capi.proofs.Made.{filled, refused}
use Rattle.ix_capi.proofs.inputs.store_of_car.Goals as goal

pub returns-in-Ok : goal.returns-in-Ok
returns-in-Ok c =
    filled (IsStoreOf c.args.car.now) (IsStoreFailure c.args.car.now) (held.Open c.in-Ok.read) c.args.store.now.pointed.value c.fill_with.new.handle.pointed.value c.fill_with.result c.fill_with.ensures (c.in-Ok.read, c.in-Ok.ensures.blocks, refl)

pub returns-in-Err : goal.returns-in-Err
returns-in-Err c =
    refused (IsStoreOf c.args.car.now) (IsStoreFailure c.args.car.now) c.in-Err.failure c.args.store.now.pointed.value c.refuse.new.handle.pointed.value c.refuse.result c.refuse.ensures c.in-Err.ensures.failed
