use Rattle.std.proofs.Common.{ℕ, List, sym, ◌∙◌, subst, arith}
use Rattle.std.specs.Prelude.{Option, Some, Ok}
use Rattle.ix_walk.specs.declared.subtree.PendingLink.{PendingLink}
use Rattle.ix_walk.specs.Arriving.{FindsNext, Takes}
use Rattle.ix_walk.specs.VisitedSet.{going_of}
use Rattle.ix_walk.proofs.Takes.{trail_limit, trail_end, trail_visit, low_depth}
use Rattle.ix_walk.proofs.visiting.next_visit.Goals as goal

pub returns-then-given-limit-clause-takes : goal.returns-then-given-limit-clause-takes
returns-then-given-limit-clause-takes c =
    trail_limit c.args.store.now c.args.number c.args.job.now.limit c.args.given (going_of c.args.store.now c.args.state.now.expanded) c.args.job.now.selector c.args.state.now.frontier c.next_link.new.frontier c.args.state.now.roots.now c.next_link.new.roots.now c.in-Some.found (c.if-given-limit.true ∙ c.limit.ensures) c.requires
    (subst (λ (o : Option PendingLink). FindsNext c.args.job.now.selector c.args.state.now.frontier c.args.state.now.roots.now o c.next_link.new.frontier c.next_link.new.roots.now) c.in-Some.is c.in_ok-found.ensures.found)

pub returns-in_default-clause-takes : goal.returns-in_default-clause-takes
returns-in_default-clause-takes c =
    trail_end c.args.store.now c.args.number c.args.job.now.limit c.args.given (going_of c.args.store.now c.args.state.now.expanded) c.args.job.now.selector c.args.state.now.frontier c.next_link.new.frontier c.args.state.now.roots.now c.next_link.new.roots.now c.requires
    (subst (λ (o : Option PendingLink). FindsNext c.args.job.now.selector c.args.state.now.frontier c.args.state.now.roots.now o c.next_link.new.frontier c.next_link.new.roots.now) c.in_default.is c.in_ok-found.ensures.found)

pub visit_link-requires-clause-depth : goal.visit_link-requires-clause-depth
visit_link-requires-clause-depth c =
    let low = low_depth c.args.job.now.limit c.args.given c.args.job.now.selector c.args.state.now.frontier c.next_link.new.frontier c.args.state.now.roots.now c.next_link.new.roots.now c.in-Some.found (λ e. c.if-given-limit.false (e ∙ sym c.limit.ensures)) c.requires
    (subst (λ (o : Option PendingLink). FindsNext c.args.job.now.selector c.args.state.now.frontier c.args.state.now.roots.now o c.next_link.new.frontier c.next_link.new.roots.now) c.in-Some.is c.in_ok-found.ensures.found) in
    let s = c.limit.ensures in omega (arith, low, s)

pub returns-clause-takes : goal.returns-clause-takes
returns-clause-takes c =
    let store = c.args.store.now in
    let job = c.args.job.now in
    let old = c.args.state.now in
    let new = c.visit_link.new.state in
    subst (λ (l : List (List ℕ)). Takes store c.args.number job.limit c.args.given job.selector (going_of store old.expanded) old.frontier old.roots.now (Ok (Some c.in_ok-visit.visit)) (going_of store new.expanded) new.frontier l) (sym c.in_ok-visit.ensures.roots)
    (trail_visit c.args.store.now c.args.number c.args.job.now.limit c.args.given (going_of c.args.store.now c.args.state.now.expanded) (going_of c.args.store.now c.visit_link.new.state.expanded) c.args.job.now.selector c.args.state.now.frontier c.next_link.new.frontier c.visit_link.new.state.frontier c.args.state.now.roots.now c.next_link.new.roots.now c.in-Some.found c.in_ok-visit.visit (λ e. c.if-given-limit.false (e ∙ sym c.limit.ensures)) c.requires
    (subst (λ (o : Option PendingLink). FindsNext c.args.job.now.selector c.args.state.now.frontier c.args.state.now.roots.now o c.next_link.new.frontier c.next_link.new.roots.now) c.in-Some.is c.in_ok-found.ensures.found) c.in_ok-visit.ensures.arrives)
