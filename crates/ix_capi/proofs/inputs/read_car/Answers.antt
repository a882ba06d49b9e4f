use Rattle.std.proofs.Common.{◌≡◌, subst, sym, rules}
use Rattle.std.specs.Prelude.{Option, Some, Result, Err}
use Rattle.ix_api.specs.declared.failure.Failure.{Failure}
use Rattle.ix_api.specs.declared.object.Object.{Object}
use Rattle.ix_capi.specs.Answers.{HasRead, IsAddedFrom, IsRefused}
use Rattle.ix_capi.proofs.ReadFile.{read_failed}
use Rattle.ix_capi.proofs.inputs.read_car.Goals as goal

pub returns-in-Some-Err : goal.returns-in-Some-Err
returns-in-Some-Err c =
    let before : Object = c.deref_mut.result.now in
    let now : Object = c.added_from-added.new.held in
    let was : c.args.store.now.pointed.value ≡ Some before = search rules in
    let is : c.put.new.self.pointed.value ≡ Some now = search rules in
    let after = c.refuse.new.handle.pointed.value in
    let made : IsRefused c.in-Some-Err.failure (Some now) after c.refuse.result =
    subst (λ (content : Option Object). IsRefused c.in-Some-Err.failure content after c.refuse.result) is c.refuse.ensures in
    let same : c.in-Some-Err.field-0 ≡ Err c.in-Some-Err.failure = search rules in
    let told : IsAddedFrom c.args.car.now before now (Some (Err c.in-Some-Err.failure)) =
    subst (λ (answer : Result (Unit {0}) Failure). IsAddedFrom c.args.car.now before now (Some answer)) same c.in-Some-Err.ensures in
    subst (λ (content : Option Object). HasRead c.args.car.now content after c.refuse.result) (sym was)
    (read_failed c.args.car.now before now c.in-Some-Err.failure after c.refuse.result told made)
