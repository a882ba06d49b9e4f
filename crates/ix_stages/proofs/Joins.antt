-- Seats are joined: the invariant of the queue is kept, and implies what they took.
use Rattle.std.proofs.Common.{◌≡◌, ◌≢◌, ℕ, ◌+◌, ◌<◌, ◌≤◌, false, List, [], ◌∷◌, ◌++◌, length, set, sym, ap, ◌∙◌, subst, inr, ⊎_elim, arith, append-nil, append_assoc, Some}
use Rattle.std.proofs.Math.ListN.{length-set}
use Rattle.std.proofs.lemmas.List.Elements.{All-append}
use Rattle.std.specs.Prelude.{All}
use mathlib.Core.Option.{some}
use lib.ListN.{get_elem?}
use Rattle.crossbeam_queue.specs.Fifo.{Merges, Learns}
use Rattle.crossbeam_queue.proofs.Lists.{at_set, at_snoc}
use Rattle.std.proofs.lemmas.Option.{none-some}
use Rattle.ix_stages.specs.declared.item.Item.{Item}
use Rattle.ix_stages.specs.declared.course.JobVisits.{JobVisits}
use Rattle.ix_stages.specs.declared.pass_view.PassView.{PassView}
use Rattle.ix_stages.specs.Items.{numbers, Rises, concat}
use Rattle.ix_stages.specs.Sent.{is_item, is_end}
use Rattle.ix_stages.specs.Course.{Allowed, times, ends, IsWellTaken}
use Rattle.ix_stages.specs.PassViews.{spent, after_join, all_put, all_taken}
use Rattle.ix_stages.specs.QueueState.{Fits, Running, IsQueueState}
use Rattle.ix_stages.specs.Totals.{total}
use Rattle.ix_stages.proofs.Totals.{total_set, part_le, total_of-one, each_set, total_append}
use Rattle.ix_stages.proofs.Numbers.{concat-snoc}
use Rattle.ix_stages.proofs.Running.{runs, spent_fits}

-- a seat that may be joined: it took in no other
pub record IsPlain (u : PassView) : Type 0 where
  pub live : u.blank ≡ false
  pub lists : (u.puts ≡ []) × (u.takens ≡ [])

module _ (port : ℕ) (v : PassView) (other : ℕ) (u : PassView) (live : v.blank ≡ false) (part : 0 < v.parts) (plain : IsPlain u) (items : List Item) (views : List PassView) (r : Running items views) (at : get_elem? views port ≡ some v) (apart : ¬ (other ≡ port)) (at' : get_elem? (set views port (after_join v u)) other ≡ some u) where
  -- the other pass is among the views
  join_was : get_elem? views other ≡ some u
  join_was = ⊎_elim (λ (t : (other ≡ port) × (after_join v u ≡ u)). absurd (apart t.0)) (λ (t : (other ≢ port) × (get_elem? views other ≡ some u)). t.1) (at_set views port other (after_join v u) u at')

  -- the join appends what the other pass took
  join_taken : all_taken (after_join v u) ≡ all_taken v ++ u.taken
  join_taken = ap (λ (l : List Item). v.taken ++ l) (concat-snoc v.takens u.taken) ∙ sym (append_assoc v.taken (concat v.takens) u.taken)

  -- the other pass has nothing joined into it
  join_alone : all_taken u ≡ u.taken
  join_alone = ap (λ (l : List (List Item)). u.taken ++ concat l) plain.lists.1 ∙ append-nil u.taken

  -- the pass fits after the join, with one more taken list whose numbers rise
  join_mine : Fits r.course r.all r.head r.left (length views) port (after_join v u)
  join_mine =
      let f = r.fits port v at in
      let g = r.fits other u join_was in
      record {
        named = f.named;
        course_is = λ _. f.course_is part;
        idle = λ z. absurd (omega (arith, part, z));
        seat = f.seat;
        maker = f.maker;
        rises = f.rises;
        joined = λ j k t e. ⊎_elim (λ (x : get_elem? v.takens k ≡ some t). f.joined j k t x) (λ (x : u.taken ≡ t). subst (λ (l : List Item). Rises 0 (r.head j) (numbers j l)) x (g.rises j)) (at_snoc v.takens u.taken t k e);
        took = subst (λ (l : List Item). All (Allowed r.course) l) (sym join_taken) (All-append (Allowed r.course) (all_taken v) u.taken f.took (subst (λ (l : List Item). All (Allowed r.course) l) join_alone g.took));
      }

  -- no sum over the views changes: what one view gains the other loses
  join_total : (h : Item → ℕ) → total (λ u. total h (all_put u)) (set (set views port (after_join v u)) other spent) ≡ total (λ u. total h (all_put u)) views
  join_total h =
      let b = after_join v u in
      let one : List PassView = set views port b in
      let s = total_set (λ u. total h (all_put u)) views port v b at in
      let s2 = total_set (λ u. total h (all_put u)) one other u spent at' in
      let a = total_append h v.put (concat (v.puts ++ u.put ∷ [])) in
      let a2 : total h (concat (v.puts ++ u.put ∷ [])) ≡ total h (concat v.puts ++ u.put) = ap (total h) (concat-snoc v.puts u.put) in
      let a3 = total_append h (concat v.puts) u.put in
      let a4 = total_append h v.put (concat v.puts) in
      let a5 : total h (u.put ++ concat u.puts) ≡ total h u.put = ap (λ (l : List (List Item)). total h (u.put ++ concat l)) plain.lists.0 ∙ ap (total h) (append-nil u.put) in
      omega arith

  -- so the invariant is kept
  join_runs : Running items (set (set views port (after_join v u)) other spent)
  join_runs =
      let b = after_join v u in
      let one : List PassView = set views port b in
      let n : length views ≡ length (set one other spent) = simp length-set in
      record {
        course = r.course;
        all = r.all;
        head = r.head;
        left = r.left;
        allowed = r.allowed;
        ordered = r.ordered;
        counted = let s = total_set (λ u. u.parts) views port v b at in let t = total_set (λ u. u.parts) one other u spent at' in let p = r.counted in omega (arith, s, t, p);
        balanced = λ h.
            (let s = total_set (λ u. total h (all_put u)) views port v b at in
            let s2 = total_set (λ u. total h (all_put u)) one other u spent at' in
            let t = total_set (λ u. total h (all_taken u)) views port v b at in
            let t2 = total_set (λ u. total h (all_taken u)) one other u spent at' in
            let a = total_append h v.put (concat (v.puts ++ u.put ∷ [])) in
            let a2 : total h (concat (v.puts ++ u.put ∷ [])) ≡ total h (concat v.puts ++ u.put) = ap (total h) (concat-snoc v.puts u.put) in
            let a3 = total_append h (concat v.puts) u.put in
            let a4 = total_append h v.put (concat v.puts) in
            let a5 : total h (u.put ++ concat u.puts) ≡ total h u.put = ap (λ (l : List (List Item)). total h (u.put ++ concat l)) plain.lists.0 ∙ ap (total h) (append-nil u.put) in
            let c = total_append h v.taken (concat (v.takens ++ u.taken ∷ [])) in
            let c2 : total h (concat (v.takens ++ u.taken ∷ [])) ≡ total h (concat v.takens ++ u.taken) = ap (total h) (concat-snoc v.takens u.taken) in
            let c3 = total_append h (concat v.takens) u.taken in
            let c4 = total_append h v.taken (concat v.takens) in
            let c5 : total h (u.taken ++ concat u.takens) ≡ total h u.taken = ap (λ (l : List (List Item)). total h (u.taken ++ concat l)) plain.lists.1 ∙ ap (total h) (append-nil u.taken) in
            let e = r.balanced h in
            omega (arith, s, s2, t, t2, a, a2, a3, a4, a5, c, c2, c3, c4, c5, e));
        once = λ j n. (let s = join_total (is_item j n) in let o = r.once j n in omega (arith, s, o));
        shut = λ j k lt.
            (let s = join_total (is_end j k) in
            let old = r.shut j k (omega (arith, s, lt)) in (
              old.0,
              each_set (λ p w. w.job ≡ Some j → 0 < ends j k w.put) one other spent (λ e. absurd (none-some j e))
                  (λ p w _ e. each_set (λ p w. w.job ≡ Some j → 0 < ends j k w.put) views port b (old.1 port v at) (λ p w _ e. old.1 p w e) p w e),
            ));
        fresh = λ j n le. join_total (is_item j n) ∙ r.fresh j n le;
        fits = λ p w e. subst (λ (n : ℕ). Fits r.course r.all r.head r.left n p w) n
            (each_set (λ p w. Fits r.course r.all r.head r.left (length views) p w) one other spent (spent_fits r.course r.all r.head r.left (length views) other)
            (λ p w _ e. each_set (λ p w. Fits r.course r.all r.head r.left (length views) p w) views port b join_mine (λ p w _ e. r.fits p w e) p w e) p w e);
      }

-- the step of the protocol in which two seats are joined
pub merges : (port : ℕ) (v : PassView) (other : ℕ) (u : PassView) → v.blank ≡ false → 0 < v.parts → IsPlain u → Merges IsQueueState port v other u (after_join v u) spent
merges port v other u live part plain items views h at apart at' = inr (join_runs port v other u live part plain items views (runs items views port v h at live) at apart at')

-- whoever has all parts knows what the queue holds
pub learns_what_is_left : (port : ℕ) (v : PassView) → v.blank ≡ false → 0 < v.parts → Learns IsQueueState port v (λ items. v.parts ≡ v.all → (h : Item → ℕ) → total h (all_put v) ≡ total h (all_taken v) + total h items)
learns_what_is_left port v live part items views q at whole h =
    let r = runs items views port v q at live in
    let f = r.fits port v at in
    let all : total (λ u. u.parts) views ≡ v.parts = r.counted ∙ (sym (f.course_is part).1 ∙ sym whole) in
    let p = total_of-one (λ u. total h (all_put u)) (λ u. u.parts) views port v at all (λ p u e z. ap (total h) ((r.fits p u e).idle z).0) in
    let t = total_of-one (λ u. total h (all_taken u)) (λ u. u.parts) views port v at all (λ p u e z. ap (total h) ((r.fits p u e).idle z).1) in
    let b = r.balanced h in
    omega (arith, p, t, b)

-- whatever a pass has taken, with the seats that were joined into it, it took each number of a job at most once
pub shares : (port : ℕ) (v : PassView) → v.blank ≡ false → Learns IsQueueState port v (λ items. (j n : ℕ) → times j n (all_taken v) ≤ 1)
shares port v live items views q at j n =
    let r = runs items views port v q at live in
    let b = r.balanced (is_item j n) in
    let o = r.once j n in
    let p = part_le (λ u. times j n (all_taken u)) views port v at in
    omega (arith, b, o, p)

-- of a job whose close a pass has taken, with the seats that were joined into it, it took no number above that of the close
pub lasts : (port : ℕ) (v : PassView) → v.blank ≡ false → Learns IsQueueState port v (λ items. (j k n : ℕ) → 0 < ends j k (all_taken v) → k < n → times j n (all_taken v) ≡ 0)
lasts port v live items views q at j k n closed lt =
    let r = runs items views port v q at live in
    let e = r.balanced (is_end j k) in
    let f = part_le (λ u. ends j k (all_taken u)) views port v at in
    let top : r.head j + r.left j ≡ k + 1 = (r.shut j k (omega (arith, e, f, closed))).0 in
    let none = r.fresh j n (omega arith) in
    let b = r.balanced (is_item j n) in
    let p = part_le (λ u. times j n (all_taken u)) views port v at in
    omega (arith, b, p, none)

-- whatever a pass has taken, with the seats that were joined into it, fits the course
pub well_taken : (port : ℕ) (v : PassView) → v.blank ≡ false → 0 < v.parts → Learns IsQueueState port v (λ items. IsWellTaken v.course (all_taken v))
well_taken port v live part items views q at =
    let r = runs items views port v q at live in
    let f = r.fits port v at in
    record {
      allowed = subst (λ (c : List JobVisits). All (Allowed c) (all_taken v)) (sym (f.course_is part).0) f.took;
      once = shares port v live items views q at;
      last = lasts port v live items views q at;
    }
