use Rattle.std.proofs.Common.{◌≡◌, ℕ, List, subst, rules}
use Rattle.ix_verify.specs.Counted.{IsJudgedOf}
use Rattle.ix_verify.specs.Walked.{IsReachedFrom}
use Rattle.ix_verify.proofs.FileFaults.{fault-along}
use Rattle.ix_verify.proofs.FoundOf.{found-roots}
use Rattle.ix_verify.proofs.file.verify_beside.Goals as goal

pub returns-in-Err-clause-refused : goal.returns-in-Err-clause-refused
returns-in-Err-clause-refused g c = fault-along c.args.beside.others.now c.args.beside.copies c.args.car.now c.in-Err.fault c.in-Err.ensures

pub returns-in-Ok-walk_roots-clause-found : goal.returns-in-Ok-walk_roots-clause-found
returns-in-Ok-walk_roots-clause-found g c =
    let b = c.args.car.now in
    let most = c.args.most in
    let met = c.in-Ok-walk_roots.reached in
    let same : c.as_slice.result.now ≡ b = search rules in
    let judged = subst (λ (x : List ℕ). IsJudgedOf x most c.in_ok-judged.judged) same c.in_ok-judged.ensures.judged in
    let reached = subst (λ (roots : List (List ℕ)). IsReachedFrom c.args.beside.allowed c.in-Ok.loaded.0 roots most met) c.as_slice-2.ensures.value c.in-Ok-walk_roots.ensures in
    found-roots c.args.beside.copies c.args.beside.allowed c.args.beside.others.now b most c.in_ok-judged.judged c.with.result met c.in-Ok.loaded.1 judged c.with.ensures c.in-Ok.loaded.0 c.in-Ok.ensures reached
