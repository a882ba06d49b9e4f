use Rattle.std.proofs.Common.{◌≡◌, ◌∙◌, List, [], ap, sym, subst, map, arith}
use Rattle.crossbeam_queue.specs.Passes.{view}
use Rattle.ix_stages.specs.declared.course.JobVisits.{JobVisits}
use Rattle.ix_stages.specs.declared.item.Item.{Item}
use Rattle.ix_stages.specs.Course.{IsWellTaken}
use Rattle.ix_stages.specs.PassViews.{all_put, all_taken}
use Rattle.ix_stages.specs.Seats.{SeatView}
use Rattle.ix_stages.specs.Settled.{Settles}
use Rattle.ix_stages.proofs.Joins.{well_taken}
use Rattle.ix_stages.proofs.Settling.{Settles-append, settled_put, settled_taken}
use Rattle.ix_stages.proofs.queue.VisitQueue.settle.Goals as goal

pub learn_as-requires-clause-rule : goal.learn_as-requires-clause-rule
learn_as-requires-clause-rule c =
    let h = c.stop.invariant.1 in
    let a = c.join_jobs.ensures.joined.1 in
    let b = c.join_takers.ensures.joined.1 in
    well_taken _ _ (b.live ∙ (a.live ∙ h.alone.live)) (let p = a.parts in let q = b.parts in let r = h.part in omega (arith, p, q, r))

pub returns-clause-put : goal.returns-clause-put
returns-clause-put c =
    let v = c.args.stop.pass in
    let a : Settles v (map (λ s. s.pass) c.args.jobs.items) (view c.join_jobs.new.pass) = subst (λ (s : SeatView). Settles s.pass (map (λ s. s.pass) c.args.jobs.items) (view c.join_jobs.new.pass)) c.stop.view_is c.join_jobs.ensures.joined.1 in
    let b = Settles-append v _ _ _ _ a c.join_takers.ensures.joined.1 in
    let none : v.puts ≡ [] = ap (λ (s : SeatView). s.pass.puts) (sym c.stop.view_is) ∙ c.stop.invariant.1.alone.lists.0 in
    ap all_put c.learn_as.ensures.queue.1 ∙ settled_put v _ c.args.jobs.items c.args.takers.items b none c.join_takers.ensures.put

pub returns-clause-taken : goal.returns-clause-taken
returns-clause-taken c =
    let v = c.args.stop.pass in
    let a : Settles v (map (λ s. s.pass) c.args.jobs.items) (view c.join_jobs.new.pass) = subst (λ (s : SeatView). Settles s.pass (map (λ s. s.pass) c.args.jobs.items) (view c.join_jobs.new.pass)) c.stop.view_is c.join_jobs.ensures.joined.1 in
    let b = Settles-append v _ _ _ _ a c.join_takers.ensures.joined.1 in
    let none : v.takens ≡ [] = ap (λ (s : SeatView). s.pass.takens) (sym c.stop.view_is) ∙ c.stop.invariant.1.alone.lists.1 in
    let own : v.taken ≡ [] = ap (λ (s : SeatView). s.pass.taken) (sym c.stop.view_is) ∙ c.stop.invariant.1.taken in
    ap all_taken c.learn_as.ensures.queue.1 ∙ settled_taken v _ c.args.jobs.items c.args.takers.items b none own c.join_jobs.ensures.taken

pub returns-clause-good : goal.returns-clause-good
returns-clause-good c =
    let v = c.args.stop.pass in
    let a : Settles v (map (λ s. s.pass) c.args.jobs.items) (view c.join_jobs.new.pass) = subst (λ (s : SeatView). Settles s.pass (map (λ s. s.pass) c.args.jobs.items) (view c.join_jobs.new.pass)) c.stop.view_is c.join_jobs.ensures.joined.1 in
    let b = Settles-append v _ _ _ _ a c.join_takers.ensures.joined.1 in
    let none : v.takens ≡ [] = ap (λ (s : SeatView). s.pass.takens) (sym c.stop.view_is) ∙ c.stop.invariant.1.alone.lists.1 in
    let own : v.taken ≡ [] = ap (λ (s : SeatView). s.pass.taken) (sym c.stop.view_is) ∙ c.stop.invariant.1.taken in
    let same = settled_taken v _ c.args.jobs.items c.args.takers.items b none own c.join_jobs.ensures.taken in
    subst (λ (p : List JobVisits × List Item). IsWellTaken p.0 p.1) (λ i. (b.course.0 i, same i)) c.learn_as.ensures.rule.1
