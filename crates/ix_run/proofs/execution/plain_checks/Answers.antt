use Rattle.std.proofs.Common.{◌≡◌, ◌+◌, ◌∙◌, ap, sym, subst, ℕ, List, []}
use Rattle.ix_pipeline.specs.Headline.{EachUnused}
use Rattle.ix_car.proofs.Each.{each_push}
use Rattle.ix_run.proofs.execution.plain_checks.Goals as goal

pub loop-preserved : goal.loop-preserved
loop-preserved c = record {
  unused = subst (λ (l : List (List (ℕ × ℕ))). EachUnused (λ x. x) l) (sym c.push_reserved.ensures.items) (each_push (λ (x : List (ℕ × ℕ)). x ≡ []) c.loop.checks.items c.new.result c.loop.invariant.unused c.new.ensures);
  full = c.push_reserved.ensures.len ∙ ap (λ n. n + 1) c.loop.invariant.full;
  room = c.push_reserved.ensures.capacity ∙ c.loop.invariant.room;
}
