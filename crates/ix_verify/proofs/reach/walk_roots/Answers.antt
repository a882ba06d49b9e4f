use Rattle.std.proofs.Common.{◌≡◌, ℕ, Bool, not, ◌&&◌, List, [], length, sym, ◌∙◌, ap, subst, rules}
use Rattle.std.specs.Prelude.{IfOk}
use Rattle.std.proofs.lemmas.List.{nil_from_length}
use Rattle.ix_verdict.specs.AllowMissing.{allows_cid}
use Rattle.ix_walk.specs.JobMeaning.{JobMeaning}
use Rattle.ix_walk.specs.Once.{first_ones}
use Rattle.ix_verify.specs.Found.{roots_job, IsReached}
use Rattle.ix_store.specs.Store.{has_cid}
use Rattle.ix_verify.specs.Walked.{roots_as_blocks, IsReachedBy}
use Rattle.ix_verify.proofs.Distinct.{lack-by-set}
use Rattle.ix_verify.proofs.reach.walk_roots.Goals as goal

pub returns-then-is_empty : goal.returns-then-is_empty
returns-then-is_empty g c =
    let distinct = c.in_ok-distinct.distinct.items in
    let zero : length distinct ≡ 0 = search rules in
    let none : distinct ≡ [] = nil_from_length distinct zero in
    subst (λ (roots : List (List ℕ)). IsReached c.args.allowed c.args.store.now roots c.args.most c.nothing.result.skips c.nothing.result.absent c.nothing.result.is_over_limit)
    (sym none ∙ c.in_ok-distinct.ensures.once) (c.nothing.ensures c.args.allowed c.args.store.now c.args.most)

pub returns : goal.returns
returns g c =
    let roots = first_ones c.args.roots.now in
    let lack = lack-by-set c.args.allowed c.in_ok-distinct.set roots (c.in_ok-distinct.ensures.set ∙ ap roots_as_blocks c.in_ok-distinct.ensures.once) in
    subst (λ (lacks : List ℕ → Bool). IfOk c.walk_job.result (IsReachedBy lacks c.args.store.now (roots_job roots) c.args.most)) lack
    (subst (λ (job : JobMeaning). IfOk c.walk_job.result (IsReachedBy (λ x. allows_cid c.args.allowed x && not (has_cid c.in_ok-distinct.set x)) c.args.store.now job c.args.most))
    (c.in_ok-job.ensures ∙ ap roots_job c.in_ok-distinct.ensures.once) c.walk_job.ensures)
