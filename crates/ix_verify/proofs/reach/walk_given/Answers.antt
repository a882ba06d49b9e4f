use Rattle.std.proofs.Common.{ℕ, Bool, List, subst, ap, ◌∙◌}
use Rattle.std.specs.Prelude.{IfOk}
use Rattle.ix_walk.specs.Once.{first_ones}
use Rattle.ix_verify.specs.Walked.{roots_as_blocks, IsReachedBy}
use Rattle.ix_verify.proofs.Distinct.{lack-by-set}
use Rattle.ix_verify.proofs.reach.walk_given.Goals as goal

-- what may be lacking by the set of the job's roots is that by the roots
pub returns : goal.returns
returns g c =
    let roots = first_ones c.args.job.now.roots in
    let lack = lack-by-set c.args.allowed c.in_ok-set.set roots (c.in_ok-set.ensures.set ∙ ap roots_as_blocks (c.in_ok-set.ensures.once ∙ ap first_ones c.roots.ensures)) in
    subst (λ (lacks : List ℕ → Bool). IfOk c.walk_job.result (IsReachedBy lacks c.args.store.now c.args.job.now c.args.most)) lack c.walk_job.ensures
