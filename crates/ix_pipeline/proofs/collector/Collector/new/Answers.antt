use Rattle.std.proofs.Common.{rules, ◌≡◌, [], ◌∷◌, ◌++◌, List, length, length-append, sym, ◌∙◌, ap, subst, arith}
use Rattle.ix_pipeline.specs.declared.job_progress.JobProgress.{JobProgress}
use Rattle.ix_pipeline.specs.Collected.{AllNew}
use Rattle.ix_pipeline.specs.JobProgress.{IsNew}
use Rattle.ix_car.proofs.Each.{each_push}
use Rattle.ix_pipeline.proofs.collector.Collector.new.Goals as goal

pub loop-preserved : goal.loop-preserved
loop-preserved c =
    let items : c.push_reserved.new.self.items ≡ c.loop.all.items ++ c.in_ok-new.field-0 ∷ [] = c.push_reserved.ensures.items in
    let new : IsNew c.in_ok-new.field-0 = search rules in
    let was : length c.loop.all.items ≡ c.loop.counter = c.loop.invariant.counted in
    let size = length-append c.loop.all.items (c.in_ok-new.field-0 ∷ []) in
    record {
      fresh = subst (λ (l : List JobProgress). AllNew l) (sym items) (each_push IsNew c.loop.all.items c.in_ok-new.field-0 c.loop.invariant.fresh new);
      counted = ap (λ (l : List JobProgress). length l) items ∙ omega (arith, size, was);
      room = c.push_reserved.ensures.capacity ∙ c.loop.invariant.room;
    }
