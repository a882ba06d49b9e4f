-- An item is taken: the rule of the queue is kept.
use Rattle.std.proofs.Common.{◌≡◌, ℕ, zero, suc, ◌+◌, ◌-◌, ◌<◌, Bool, true, false, true≢false, cond, List, [], ◌∷◌, ◌++◌, length, set, sym, refl, ap, ◌∙◌, subst, inr, arith, append-nil, Some}
use Rattle.std.proofs.Math.ListN.{length-set}
use Rattle.std.proofs.lemmas.List.Elements.{All-cons, All-head, All-tail}
use Rattle.std.specs.Prelude.{All}
use mathlib.Core.Option.{some}
use lib.ListN.{get_elem?}
use Rattle.crossbeam_queue.specs.Fifo.{Pops}
use Rattle.ix_stages.specs.declared.item.Item.{Item}
use Rattle.ix_stages.specs.declared.course.JobVisits.{JobVisits}
use Rattle.ix_stages.specs.declared.pass_view.PassView.{PassView}
use Rattle.ix_stages.specs.Items.{is_of, seq_of, numbers, count_up, Rises, concat}
use Rattle.ix_stages.specs.Course.{Allowed, times, ends}
use Rattle.ix_stages.specs.Seats.{IsTake}
use Rattle.ix_stages.specs.PassViews.{after_take, all_put, all_taken}
use Rattle.ix_stages.specs.QueueState.{Fits, Running, IsQueueState}
use Rattle.ix_stages.specs.Totals.{total}
use Rattle.ix_stages.proofs.Totals.{total_set, each_set, total_append}
use Rattle.ix_stages.proofs.Numbers.{held, numbers-append, Rises-more, Rises-snoc}
use Rattle.ix_stages.proofs.Running.{runs, one_if}

-- one more element in the middle
pub All-mid : {X : Type 0} (P : X → Type 0) (xs ys : List X) (x : X) → All P (xs ++ ys) → P x → All P ((xs ++ x ∷ []) ++ ys)
All-mid P [] ys x a p = All-cons P x ys p a
All-mid P (z ∷ zs) ys x a p = All-cons P z ((zs ++ x ∷ []) ++ ys) (All-head P z (zs ++ ys) a) (All-mid P zs ys x (All-tail P z (zs ++ ys) a) p)

-- the item at the front is the next of its job
pop_at : (b : Bool) (n m k : ℕ) (rest : List ℕ) → cond b (n ∷ rest) rest ≡ count_up m k → (rest ≡ count_up (m + one_if b) (k - one_if b)) × (m + one_if b + (k - one_if b) ≡ m + k) × (b ≡ true → n ≡ m)
pop_at true n m zero rest e = absurd (cc)
pop_at true n m (suc k) rest e =
    let a : n ≡ m = cc in
    let b : rest ≡ count_up (suc m) k = cc in
    let c : suc m ≡ m + 1 = omega arith in
    let d : k ≡ suc k - 1 = omega arith in
    ((b ∙ (ap (λ (i : ℕ). count_up i k) c ∙ ap (count_up (m + 1)) d)), omega arith, λ _. a)
pop_at false n m k rest e =
    let c : m ≡ m + 0 = omega arith in
    let d : k ≡ k - 0 = omega arith in
    ((e ∙ (ap (λ (i : ℕ). count_up i k) c ∙ ap (count_up (m + 0)) d)), omega arith, λ f. absurd (true≢false (sym f)))

-- its number follows those that were taken of its job
rises_at : (b : Bool) (n m : ℕ) (taken : List ℕ) → (b ≡ true → n ≡ m) → Rises 0 m taken → Rises 0 (m + one_if b) (taken ++ cond b (n ∷ []) [])
rises_at true n m taken is r =
    let e : n ≡ m = is refl in
    let s : Rises 0 (suc n) (taken ++ n ∷ []) = Rises-snoc 0 m n taken r (omega arith) in
    Rises-more 0 (suc n) (m + 1) (taken ++ n ∷ []) (omega arith) s
rises_at false n m taken is r = subst (λ (l : List ℕ). Rises 0 (m + 0) l) (sym (append-nil taken)) (Rises-more 0 m (m + 0) taken (omega arith) r)

module _ (port : ℕ) (v : PassView) (x : Item) (live : v.blank ≡ false) (part : 0 < v.parts) (items : List Item) (views : List PassView) (r : Running (x ∷ items) views) (at : get_elem? views port ≡ some v) where
  -- the number of each job that is taken next, after the take
  abbrev head_after : ℕ → ℕ
  head_after j = r.head j + held j x

  -- how many items of each job the queue holds, after the take
  abbrev left_after : ℕ → ℕ
  left_after j = r.left j - held j x

  -- what is left in the queue is consecutive, and the item taken had the first number
  popped : (j : ℕ) → (numbers j items ≡ count_up (head_after j) (left_after j)) × (head_after j + left_after j ≡ r.head j + r.left j) × (is_of j x ≡ true → seq_of x ≡ r.head j)
  popped j = pop_at (is_of j x) (seq_of x) (r.head j) (r.left j) (numbers j items) (r.ordered j)

  -- every other pass fits, since the bounds only rise
  take_other : (p : ℕ) (u : PassView) → get_elem? views p ≡ some u → Fits r.course r.all head_after left_after (length views) p u
  take_other p u e =
      let f = r.fits p u e in
      record {
        named = f.named;
        course_is = f.course_is;
        idle = f.idle;
        seat = λ j is. (let s = f.seat j is in (s.0, s.1 ∙ sym (popped j).1, s.2));
        maker = λ m. (let k = f.maker m in (k.0, k.1, λ j le. (popped j).1 ∙ k.2 j le));
        rises = λ j. Rises-more 0 (r.head j) (head_after j) (numbers j u.taken) (omega arith) (f.rises j);
        joined = λ j k t is. Rises-more 0 (r.head j) (head_after j) (numbers j t) (omega arith) (f.joined j k t is);
        took = f.took;
      }

  -- the pass that took the item fits
  take_mine : Fits r.course r.all head_after left_after (length views) port (after_take v x)
  take_mine =
      let g = take_other port v at in
      let f = r.fits port v at in
      record {
        named = g.named;
        course_is = g.course_is;
        idle = λ z. absurd (omega (arith, part, z));
        seat = g.seat;
        maker = g.maker;
        rises = λ j. subst (λ (l : List ℕ). Rises 0 (head_after j) l) (sym (numbers-append j v.taken (x ∷ []))) (rises_at (is_of j x) (seq_of x) (r.head j) (numbers j v.taken) (popped j).2 (f.rises j));
        joined = g.joined;
        took = All-mid (Allowed r.course) v.taken (concat v.takens) x f.took (All-head (Allowed r.course) x items r.allowed);
      }

  -- so the invariant is kept: the item moves from the queue to what was taken
  take_runs : Running items (set views port (after_take v x))
  take_runs =
      let w = after_take v x in
      let n : length (set views port w) ≡ length views = simp length-set in
      record {
        course = r.course;
        all = r.all;
        head = head_after;
        left = left_after;
        allowed = All-tail (Allowed r.course) x items r.allowed;
        ordered = λ j. (popped j).0;
        counted = let s = total_set (λ u. u.parts) views port v w at in let p = r.counted in omega (arith, s, p);
        balanced = λ h.
            (let s = total_set (λ u. total h (all_put u)) views port v w at in
            let t = total_set (λ u. total h (all_taken u)) views port v w at in
            let b = r.balanced h in
            let a = total_append h (v.taken ++ x ∷ []) (concat v.takens) in
            let a2 = total_append h v.taken (x ∷ []) in
            let a3 = total_append h v.taken (concat v.takens) in
            omega (arith, s, t, b, a, a2, a3));
        once = λ j n. (let s = total_set (λ u. times j n (all_put u)) views port v w at in let o = r.once j n in omega (arith, s, o));
        shut = λ j k lt.
            (let s = total_set (λ u. ends j k (all_put u)) views port v w at in
            let old = r.shut j k (omega (arith, s, lt)) in
            ((popped j).1 ∙ old.0, each_set (λ p u. u.job ≡ Some j → 0 < ends j k u.put) views port w (old.1 port v at) (λ p u apart e. old.1 p u e)));
        fresh = λ j n le. (let s = total_set (λ u. times j n (all_put u)) views port v w at in let m = (popped j).1 in let o = r.fresh j n (omega (arith, le, m)) in omega (arith, s, o));
        fits = λ p u e. subst (λ (n : ℕ). Fits r.course r.all head_after left_after n p u) (sym n) (each_set (λ p u. Fits r.course r.all head_after left_after (length views) p u) views port w take_mine (λ p u apart e. take_other p u e) p u e);
      }

  -- what the step implies: the course allows the item, and its number is above those taken before
  take_tells : IsTake v x (after_take v x)
  take_tells =
      let f = r.fits port v at in
      record { pass = refl; allowed = subst (λ (c : List JobVisits). Allowed c x) (sym (f.course_is part).0) (All-head (Allowed r.course) x items r.allowed); above = λ j is. subst (λ (n : ℕ). Rises 0 n (numbers j v.taken)) (sym ((popped j).2 is)) (f.rises j) }

-- the step of the protocol in which an item is taken
pub takes : (port : ℕ) (v : PassView) → v.blank ≡ false → 0 < v.parts → Pops IsQueueState port v (IsTake v)
takes port v live part x items views h at =
    let r = runs (x ∷ items) views port v h at live in
    (after_take v x, inr (take_runs port v x live part items views r at), take_tells port v x live part items views r at)
