-- A queue that runs, and small facts of its views.
use Rattle.std.proofs.Common.{◌≡◌, ℕ, zero, suc, Bool, false, true≢false, cond, List, refl, sym, ap, ◌∙◌, inl, inr, arith}
use Rattle.std.proofs.lemmas.List.Elements.{All-nil}
use Rattle.std.proofs.lemmas.Option.{none-some}
use mathlib.Core.Option.{some, some-ne-none, some-injective}
use lib.ListN.{get_elem?}
use Rattle.ix_stages.specs.declared.course.JobVisits.{JobVisits}
use Rattle.ix_stages.specs.declared.item.Item.{Item}
use Rattle.ix_stages.specs.declared.pass_view.PassView.{PassView}
use Rattle.ix_stages.specs.Course.{Allowed}
use Rattle.ix_stages.specs.PassViews.{blank, spent}
use Rattle.ix_stages.specs.QueueState.{Fits, Running, IsQueueState}

-- a pass that isn't blank shows that the queue runs
pub runs : (items : List Item) (views : List PassView) (port : ℕ) (v : PassView) → IsQueueState items views → get_elem? views port ≡ some v → v.blank ≡ false → Running items views
runs items views port v (inr r) at live = r
runs items views zero v (inl b) at live = absurd (true≢false (ap (λ (u : PassView). u.blank) (some-injective blank v (ap (λ (l : List PassView). get_elem? l 0) (sym b.1) ∙ at)) ∙ live))
runs items views (suc p) v (inl b) at live = absurd (some-ne-none v (sym (ap (λ (l : List PassView). get_elem? l (suc p)) (sym b.1) ∙ at)))

-- 1 if true, and else 0
abbrev pub one_if : Bool → ℕ
one_if b = cond b 1 0

-- a pass without seats fits whatever was put
pub spent_fits : (c : List JobVisits) (n : ℕ) (head left : ℕ → ℕ) (count port : ℕ) → Fits c n head left count port spent
spent_fits c n head left count port = record {
  named = refl;
  course_is = λ z. absurd (omega (arith, z));
  idle = λ _. (refl, refl);
  seat = λ j e. absurd (none-some j e);
  maker = λ m. absurd (true≢false (sym m));
  rises = λ j. omega arith;
  joined = λ j k t e. absurd (some-ne-none t (sym e));
  took = All-nil (Allowed c);
}
