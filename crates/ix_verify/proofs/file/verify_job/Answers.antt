use Rattle.std.proofs.Common.{◌≡◌, ℕ, List, subst, rules}
use Rattle.ix_verify.specs.Counted.{IsJudgedOf}
use Rattle.ix_verify.proofs.FoundOf.{found-for}
use Rattle.ix_verify.proofs.file.verify_job.Goals as goal

pub returns-in-Ok : goal.returns-in-Ok
returns-in-Ok g c =
    let most = c.args.most in
    let same : c.as_slice.result.now ≡ c.args.car.now = search rules in
    let judged = subst (λ (x : List ℕ). IsJudgedOf x most c.in_ok-judged.judged) same c.in_ok-judged.ensures.judged in
    found-for c.args.walk.allowed c.args.walk.store.now c.args.walk.job.now c.args.car.now most c.in_ok-judged.judged c.with.result c.in-Ok.reached judged c.with.ensures c.in-Ok.ensures
