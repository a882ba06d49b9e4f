use Rattle.std.proofs.Common.{◌∙◌, ap, subst}
use Rattle.std.specs.Prelude.{Option}
use Rattle.ix_selector.specs.Behind.{residual_of}
use Rattle.ix_walk.specs.declared.subtree.PendingLink.{PendingLink}
use Rattle.ix_walk.specs.Descent.{Finds}
use Rattle.ix_walk.proofs.Nexts.{next_link, next_root}
use Rattle.ix_walk.proofs.visiting.next_link.Goals as goal

pub returns-in-Some-clause-found : goal.returns-in-Some-clause-found
returns-in-Some-clause-found c =
    next_link c.args.job.now.selector c.args.frontier.now c.next_found.new.frontier c.args.roots.now.now c.in-Some.found
    (subst (λ (o : Option PendingLink). Finds c.args.frontier.now o c.next_found.new.frontier) c.in-Some.is c.in_ok-found.ensures.found)

pub returns-clause-found : goal.returns-clause-found
returns-clause-found c =
    next_root c.args.job.now.selector c.args.frontier.now c.next_found.new.frontier c.args.roots.now.now c.in-Some-split_first.rest.now c.in_ok-residual.residual c.in-Some-split_first.root.now c.by_ref.result
    (subst (λ (o : Option PendingLink). Finds c.args.frontier.now o c.next_found.new.frontier) c.in_default.is c.in_ok-found.ensures.found) c.in-Some-split_first.ensures.cases.0
    (c.in_ok-residual.ensures.exact ∙ ap residual_of c.selector.ensures) c.by_ref.ensures.same
