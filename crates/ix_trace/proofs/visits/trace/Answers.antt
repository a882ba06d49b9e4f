use Rattle.std.proofs.Common.{◌≡◌, ◌+◌, length, refl, sym, subst, ◌∙◌, ap}
use Rattle.std.specs.Prelude.{Option, Some, take, slice_get}
use Rattle.std.specs.Prelude.{String}
use Rattle.std.specs.Global.{Global, Vec}
use Rattle.ix_cid.proofs.Lists.{next_at}
use Rattle.ix_walk.specs.Visits.{visits_of, arrivals_of}
use Rattle.ix_walk.specs.WalkLeft.{WalkLeft, GivesNext}
use Rattle.ix_trace.specs.declared.tracer.Tracer.{Tracer}
use Rattle.ix_trace.specs.Trace.{AreKept, ArePaths}
use Rattle.ix_trace.proofs.Traced.{visit_path, got_at, paths_more}
use Rattle.ix_trace.proofs.visits.trace.Goals as goal
use Rattle.ix_trace.proofs.visits.trace.Goals.{then-visit-next+in_ok-path+in_ok-push, else-visit-next}

pub loop-item-init : goal.loop-item-init
loop-item-init c =
    let store = c.args.store.now in
    let job = c.args.job.now in (
      c.new-tracer.ensures store,
      (0, ap (λ (w : WalkLeft). w.visits) (c.into_iter-item-iterator.ensures.into_iter_gives ∙ c.in_ok-item-items.ensures)),
      subst (ArePaths store job c.args.numbers.now) (sym c.in_ok-paths.ensures.items) tt,
    )

pub loop-item-preserved : goal.loop-item-preserved
loop-item-preserved c =
    let store = c.args.store.now in
    let job = c.args.job.now in
    let numbers = c.args.numbers.now in
    let h = c.loop-item.invariant in
    let all = visits_of store 0 job in
    let k = h.1.0 in
    let v = c.in-Ok.visit in
    let gives = subst (λ i. GivesNext c.loop-item.item-iterator (Some i) c.next.new.self) c.in-Ok.is c.in-Some.ensures.steps in
    let next = next_at all c.next.new.self.visits k v (sym h.1.1 ∙ gives.1) in
    let advanced = c.advance.ensures store h.0 in
    let number = c.in-Some-get.next.now in
    let asked : slice_get numbers (length c.loop-item.paths.items) ≡ Some number = subst (λ n. slice_get numbers n ≡ Some number) (c.len.ensures ∙ c.loop-item.paths.ok.0) (got_at numbers c.len.result c.get.result c.in-Some-get.next c.get.ensures.lookup c.in-Some-get.is) in
    elim c.if-visit-next.branch [
      | then-visit-next+in_ok-path+in_ok-push w ↦ (
        subst (λ (t : Tracer). AreKept store t.levels.items) (sym w.tracer-is) w.path.ensures.kept,
        (k + 1, sym next.1),
        subst (λ (p : Vec (Option (String Global))). ArePaths store job numbers p.items) (sym w.paths-is)
            (subst (ArePaths store job numbers) (sym w.in_ok-push.ensures.items)
            (paths_more store job numbers c.loop-item.paths.items number w.in_ok-path.field-0 h.2 asked
            (visit_path store job (take job.limit (arrivals_of store job)) k number v w.in_ok-path.field-0 refl next.0 w.if-visit-next.true w.in_ok-path.ensures.path))),
      )
      | else-visit-next w ↦ (
        subst (λ (t : Tracer). AreKept store t.levels.items) (sym w.tracer-is) advanced,
        (k + 1, sym next.1),
        subst (λ (p : Vec (Option (String Global))). ArePaths store job numbers p.items) (sym w.paths-is) h.2,
      )
    ]
