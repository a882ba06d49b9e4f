use Rattle.std.proofs.Common.{◌≡◌, List, ℕ, subst, rules}
use Rattle.ix_verify.specs.Counted.{IsJudgedOf}
use Rattle.ix_verify.proofs.FoundOf.{found-blocks}
use Rattle.ix_verify.proofs.file.verify_sections.Goals as goal

pub returns-clause-found : goal.returns-clause-found
returns-clause-found g c =
    let same : c.as_slice.result.now ≡ c.args.car.now = search rules in
    let judged = subst (λ (x : List ℕ). IsJudgedOf x c.args.most c.in_ok-judged.judged) same c.in_ok-judged.ensures.judged in
    found-blocks c.args.car.now c.args.most c.in_ok-judged.judged c.with.result c.nothing.result judged c.with.ensures c.nothing.ensures
