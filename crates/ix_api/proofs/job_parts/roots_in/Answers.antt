use Rattle.std.proofs.Common.{ℕ, ◌-◌, List, ◌∙◌, ap}
use Rattle.std.proofs.lemmas.Result.{err_from_is_err_and}
use Rattle.ix_api.specs.JobParts.{roots_after}
use Rattle.ix_api.proofs.JobRoots.{one_more, failing, some_by}
use Rattle.ix_api.proofs.job_parts.roots_in.Goals as goal

pub loop-rest-init : goal.loop-rest-init
loop-rest-init c = ap (λ (roots : List (List ℕ)). roots_after 64 roots c.args.bytes.now) c.new-roots.ensures.items

pub returns-in_err-root : goal.returns-in_err-root
returns-in_err-root c =
    let failed = err_from_is_err_and c.from_residual.result c.from_residual.ensures.1 in
    rw (failed.1, failed.2)
    (failing c.loop-rest.left c.loop-rest.roots.items c.loop-rest.rest.now c.args.bytes.now c.in_err-root.field-0.0 c.if-left-eq0.false (some_by c.loop-rest.rest.now c.loop-rest-test.ensures) c.loop-rest.invariant c.in_err-root.ensures)

pub loop-rest-preserved : goal.loop-rest-preserved
loop-rest-preserved c =
    ap (λ (roots : List (List ℕ)). roots_after (c.loop-rest.left - 1) roots c.in_ok-root.behind.now) c.in_ok-push.ensures.items
    ∙ one_more c.loop-rest.left c.loop-rest.roots.items c.loop-rest.rest.now c.in_ok-root.root c.in_ok-root.behind.now c.if-left-eq0.false (some_by c.loop-rest.rest.now c.loop-rest-test.ensures) c.in_ok-root.ensures
    ∙ c.loop-rest.invariant
