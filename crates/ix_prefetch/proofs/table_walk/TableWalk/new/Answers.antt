use Rattle.std.proofs.Common.{true, false, refl, sym, ◌∙◌, ap, subst, arith}
use Rattle.std.specs.Prelude.{Some}
use Rattle.ix_selector.specs.Pattern.{IsSelector}
use Rattle.ix_selector.proofs.Onward.{left-entered}
use Rattle.ix_walk.specs.VisitedSet.{going_of}
use Rattle.ix_walk.specs.Walking.{Going}
use Rattle.ix_walk.proofs.Goes.{none_expanded}
use Rattle.ix_walk.proofs.Starts.{followed}
use Rattle.ix_prefetch.specs.declared.state.TableState.{TableState}
use Rattle.ix_prefetch.proofs.Visits.{starts, walks_roots}
use Rattle.ix_prefetch.proofs.table_walk.TableWalk.new.Goals.{then-visits_links_once+in_ok-new, else-visits_links_once}
use Rattle.ix_prefetch.proofs.table_walk.TableWalk.new.Goals as goal

pub invariant_of-result : goal.invariant_of-result
invariant_of-result c = walks_roots c.args.table.now 0 _ (omega arith) refl c.new-2.ensures.items

pub returns : goal.returns
returns c =
    let t = c.args.table.now in
    let selector = subst IsSelector (c.selector-2.ensures ∙ ap (λ j. j.selector) c.job-job.ensures) c.selector_is_one.ensures in
    let is = followed t.job.selector (λ p. left-entered t.job.selector selector p) in
    let roots = c.roots.ensures ∙ ap (λ j. j.roots) c.job-job.ensures in
    let asked = sym (c.visits_links_once.ensures ∙ ap (λ j. j.once) c.job-job.ensures) in
    let s : TableState = record { expanded = c.if-visits_links_once.expanded; at = record { from = 0; to = 0; depth = 0 }; waiting = c.new-2.result; roots = c.roots.result } in
    elim c.if-visits_links_once.branch [
      | then-visits_links_once+in_ok-new w ↦ starts t c.args.number true s is (asked ∙ w.if-visits_links_once.true)
          (ap (going_of t.store) w.expanded-is ∙ ap (λ (g : Going). Some g) (none_expanded t.store w.in_ok-new.field-0 w.in_ok-new.ensures)) refl c.new-2.ensures.items roots
      | else-visits_links_once w ↦ starts t c.args.number false s is (asked ∙ w.if-visits_links_once.false)
          (ap (going_of t.store) w.expanded-is) refl c.new-2.ensures.items roots
    ]
