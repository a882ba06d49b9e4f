use Rattle.std.proofs.Common.{◌≡◌, ◌+◌, ◌<◌, ◌≤◌, ℕ, suc, List, length, get_or, take, ap, subst, arith, inr}
use Rattle.ix_store.specs.Index.{window_of, AreTaken, IsFree, IsTaken}
use Rattle.ix_store.specs.declared.index.Slot.{Slot}
use Rattle.ix_store.proofs.Indexes.{free, free-by, taken-by, first-from, taken-more, taken-all}
use Rattle.ix_store.proofs.index.free_slot.Goals as goal

pub returns-then-is_none : goal.returns-then-is_none
returns-then-is_none c =
    let l = window_of c.args.slots.now c.args.hash in
    let n = c.loop-step.step in
    let e : c.window-first.result.1.now ≡ l = c.window-first.ensures.slots in
    let vacant : IsFree (get_or l n free) = subst (λ (r : List Slot). IsFree (get_or r n free)) e (free-by (get_or c.window-first.result.1.now n free) c.place.result c.place.ensures c.if-is_none.ensures) in (
      omega (arith, c.if-place-ge-MOST_PLACES.false),
      (n, ap (λ (k : ℕ). k + n) c.window-first.ensures.first, first-from l n c.loop-step.invariant (subst (λ (r : List Slot). n < length r) e c.loop-step-test.true) vacant),
    )

pub loop-step-preserved : goal.loop-step-preserved
loop-step-preserved c =
    let l = window_of c.args.slots.now c.args.hash in
    let n = c.loop-step.step in
    let e : c.window-first.result.1.now ≡ l = c.window-first.ensures.slots in
    let one : suc n ≡ n + 1 = omega arith in
    let taken : IsTaken (get_or l n free) = subst (λ (r : List Slot). IsTaken (get_or r n free)) e (taken-by (get_or c.window-first.result.1.now n free) c.place.result c.place.ensures c.if-is_none.ensures) in
    subst (λ (k : ℕ). AreTaken (take k l)) one (taken-more l n c.loop-step.invariant (subst (λ (r : List Slot). n < length r) e c.loop-step-test.true) taken)

pub returns : goal.returns
returns c =
    let l = window_of c.args.slots.now c.args.hash in
    let n = c.loop-step.step in
    inr (taken-all l n c.loop-step.invariant (subst (λ (r : List Slot). length r ≤ n) c.window-first.ensures.slots c.loop-step-test.false))
