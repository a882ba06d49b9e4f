use Rattle.std.proofs.Common.{true, false, sym, ◌∙◌, ap, subst}
use Rattle.std.specs.Prelude.{Some}
use Rattle.ix_selector.specs.Pattern.{IsSelector}
use Rattle.ix_walk.specs.VisitedSet.{going_of}
use Rattle.ix_walk.specs.Walking.{Going}
use Rattle.ix_walk.proofs.Goes.{none_expanded}
use Rattle.ix_walk.proofs.Starts.{frontier-begins, followed, starts_from, starts_within}
use Rattle.ix_walk.proofs.walk.Walk.new.Goals.{then-visits_links_once+in_ok-new, else-visits_links_once}
use Rattle.ix_walk.proofs.walk.Walk.new.Goals as goal

pub returns : goal.returns
returns c =
    let store = c.args.store.now in
    let job = c.args.job.now in
    let is = followed job.selector (λ p. c.residual_is_the_rest.ensures.left job.selector p (subst IsSelector c.selector-2.ensures c.selector_is_one.ensures)) in
    let start = frontier-begins c.new-2.result c.new-2.ensures.next c.new-2.ensures.stack in
    elim c.if-visits_links_once.branch [
      | then-visits_links_once+in_ok-new w ↦ starts_from store c.args.number job c.new-2.result true (going_of store c.if-visits_links_once.expanded) c.roots.result.now is (sym c.visits_links_once.ensures ∙ w.if-visits_links_once.true)
          (ap (going_of store) w.expanded-is ∙ ap (λ (g : Going). Some g) (none_expanded store w.in_ok-new.field-0 w.in_ok-new.ensures)) c.roots.ensures start
      | else-visits_links_once w ↦ starts_from store c.args.number job c.new-2.result false (going_of store c.if-visits_links_once.expanded) c.roots.result.now is (sym c.visits_links_once.ensures ∙ w.if-visits_links_once.false)
          (ap (going_of store) w.expanded-is) c.roots.ensures start
    ]

pub invariant_of-result : goal.invariant_of-result
invariant_of-result c = starts_within c.args.job.now.limit c.new-2.result (frontier-begins c.new-2.result c.new-2.ensures.next c.new-2.ensures.stack)
