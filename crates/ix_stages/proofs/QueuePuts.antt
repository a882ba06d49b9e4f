-- An item is put: the rule of the queue is kept.
use Rattle.std.proofs.Common.{◌≡◌, ◌≢◌, ℕ, zero, suc, ◌+◌, ◌<◌, ◌≤◌, ◌⊎◌, Bool, true, false, true≢false, cond, List, [], ◌∷◌, ◌++◌, length, set, take, map, sym, refl, ap, ◌∙◌, subst, inl, inr, arith, append-nil, length-append, Some}
use Rattle.std.proofs.Math.ListN.{length-set}
use Rattle.std.proofs.Common.{◌==◌}
use Rattle.std.proofs.lemmas.Bool.Decides.{nat_tests}
use Rattle.std.proofs.lemmas.List.Elements.{All-push}
use native.Mathlib.Decide.{ℕ_discrete}
use mathlib.Core.Option.{some}
use lib.ListN.{get_elem?}
use Rattle.crossbeam_queue.specs.Fifo.{Pushes}
use Rattle.ix_stages.specs.declared.item.Item.{Item}
use Rattle.ix_stages.specs.declared.item.Item.TheVariants as item
use Rattle.ix_walk.specs.declared.visit.Visit.{Visit}
use Rattle.ix_stages.specs.declared.course.JobVisits.{JobVisits}
use Rattle.ix_stages.specs.declared.pass_view.PassView.{PassView}
use Rattle.ix_stages.specs.Items.{is_of, seq_of, numbers, count_up, concat}
use Rattle.ix_stages.specs.Sent.{is_item, is_end}
use Rattle.ix_stages.specs.Course.{Allowed, IsPut, times, ends, opened, course_visits}
use Rattle.ix_stages.specs.PassViews.{after_put, all_put, all_taken}
use Rattle.ix_stages.specs.QueueState.{Fits, Running, IsQueueState}
use Rattle.ix_stages.specs.Totals.{total}
use Rattle.ix_stages.proofs.Totals.{total_set, at_below, each_set, total_append}
use Rattle.ix_stages.proofs.Numbers.{held, numbers-append, count_up-snoc}
use Rattle.ix_stages.proofs.Running.{runs, one_if}

-- a number that is put for the first time is counted once at most
mark_go : (k n t top : ℕ) → k ≡ top → (top ≤ n → t ≡ 0) → t ≤ 1 → t + cond (k == n) 1 0 ≤ 1
mark_go k n t top e unput le = elim (ℕ_discrete k n) [
  | yes same ↦ (let z : t ≡ 0 = unput (omega arith) in let q : (k == n) ≡ true = grind (arith, nat_tests) in subst (λ (b : Bool). t + cond b 1 0 ≤ 1) (sym q) (omega arith))
  | no differs ↦ (let q : (k == n) ≡ false = grind (arith, nat_tests) in subst (λ (b : Bool). t + cond b 1 0 ≤ 1) (sym q) (omega arith))
]

-- the item of a seat is of the seat's job and has the next number; an item of no job is for the pass that has no job
pub record MayPut (v : PassView) (x : Item) : Type 0 where
  pub live : v.blank ≡ false
  pub part : 0 < v.parts
  pub allowed : Allowed v.course x
  pub own : (j : ℕ) → is_of j x ≡ true → (v.job ≡ Some j) × (seq_of x ≡ length v.put)
  pub mine : (j : ℕ) → v.job ≡ Some j → (is_of j x ≡ true) × IsPut v.course j (v.put ++ x ∷ [])

-- the first visits have no close
opened_ends : (vs : List Visit) (j k : ℕ) → ends j k (map item.Visit vs) ≡ 0
opened_ends [] j k = refl
opened_ends (v ∷ vs) j k = let rest : ends j k (map item.Visit vs) ≡ 0 = opened_ends vs j k in omega arith

-- an item of another job is no close of this one
is_end_other : (j k : ℕ) (x : Item) → is_of j x ≡ false → is_end j k x ≡ 0
is_end_other j k (item.Visit v) e = refl
is_end_other j k (item.Close i m f) e = rw e refl
is_end_other j k item.Stop e = refl

-- a close that counts at k has the number k
is_end_seq : (j k : ℕ) (x : Item) → 0 < is_end j k x → seq_of x ≡ k
is_end_seq j k (item.Visit v) lt = absurd (omega arith)
is_end_seq j k (item.Close i m f) lt = go (i == j) (m == k) refl lt where
  go : (b d : Bool) → (m == k) ≡ d → 0 < cond b (cond d 1 0) 0 → m ≡ k
  go true true e lt = grind (arith, nat_tests)
  go true false e lt = absurd (omega arith)
  go false d e lt = absurd (omega arith)
is_end_seq j k item.Stop lt = absurd (omega arith)

-- a number is 0 or positive
zero_or : (n : ℕ) → (n ≡ 0) ⊎ (0 < n)
zero_or zero = inl refl
zero_or (suc n) = inr (omega arith)

-- a list with one element more isn't empty
not_none : {X : Type 0} (ys : List X) (z : X) → [] ≡ ys ++ z ∷ [] → ⊥
not_none [] z e = cc
not_none (y ∷ ys) z e = cc

-- lists that are equal with one element more are equal without
snoc_same : {X : Type 0} (xs ys : List X) (x y : X) → xs ++ x ∷ [] ≡ ys ++ y ∷ [] → xs ≡ ys
snoc_same [] [] x y e = refl
snoc_same [] (b ∷ ys) x y e = absurd (not_none ys y (let t : [] ≡ ys ++ y ∷ [] = cc in t))
snoc_same (a ∷ xs) [] x y e = absurd (not_none xs x (let t : xs ++ x ∷ [] ≡ [] = cc in sym t))
snoc_same (a ∷ xs) (b ∷ ys) x y e = let h : a ≡ b = cc in let t : xs ++ x ∷ [] ≡ ys ++ y ∷ [] = cc in ap (λ z. z ∷ xs) h ∙ ap (λ l. b ∷ l) (snoc_same xs ys x y t)

-- nothing is put after a close
no_put_after : (c : List JobVisits) (j k : ℕ) (put : List Item) (x : Item) → IsPut c j (put ++ x ∷ []) → 0 < ends j k put → ⊥
no_put_after c j k put x (n, le, inl e) there =
    let a : ends j k (put ++ x ∷ []) ≡ ends j k put + ends j k (x ∷ []) = total_append (is_end j k) put (x ∷ []) in
    let z : ends j k (put ++ x ∷ []) ≡ 0 = ap (ends j k) e ∙ opened_ends (take n (course_visits c j)) j k in
    absurd (omega arith)
no_put_after c j k put x (n, le, inr w) there =
    let same : put ≡ opened c j n = snoc_same put (opened c j n) x (item.Close j n w.0) w.1 in
    let z : ends j k put ≡ 0 = ap (ends j k) same ∙ opened_ends (take n (course_visits c j)) j k in
    absurd (omega arith)

module _ (port : ℕ) (v : PassView) (x : Item) (may : MayPut v x) (items : List Item) (views : List PassView) (r : Running items views) (at : get_elem? views port ≡ some v) where
  -- how many items of each job the queue holds after the put
  abbrev put_left : ℕ → ℕ
  put_left j = r.left j + held j x

  -- the new number comes after those of its job in the queue, and other jobs' stay
  put_ordered_at : (j : ℕ) (b : Bool) → is_of j x ≡ b → numbers j (items ++ x ∷ []) ≡ count_up (r.head j) (r.left j + cond b 1 0)
  put_ordered_at j true e =
      let o = may.own j e in
      let s = (r.fits port v at).seat j o.0 in
      let n : r.head j + r.left j ≡ seq_of x = sym s.1 ∙ sym o.1 in
      numbers-append j items (x ∷ []) ∙ (ap (λ (b : Bool). numbers j items ++ cond b (seq_of x ∷ []) []) e ∙ (ap (λ (l : List ℕ). l ++ seq_of x ∷ []) (r.ordered j) ∙ (ap (λ (m : ℕ). count_up (r.head j) (r.left j) ++ m ∷ []) (sym n) ∙ sym (count_up-snoc (r.head j) (r.left j)))))
  put_ordered_at j false e =
      let z : r.left j ≡ r.left j + 0 = omega arith in
      numbers-append j items (x ∷ []) ∙ (ap (λ (b : Bool). numbers j items ++ cond b (seq_of x ∷ []) []) e ∙ (append-nil (numbers j items) ∙ (r.ordered j ∙ ap (count_up (r.head j)) z)))

  -- the item is of no job whose seat isn't made yet, since the seat that puts it is among the views
  held_none : (p : ℕ) (u : PassView) → get_elem? views p ≡ some u → u.maker ≡ true → (j : ℕ) → u.made ≤ j → (b : Bool) → is_of j x ≡ b → one_if b ≡ 0
  held_none p u e m j le false is = refl
  held_none p u e m j le true is =
      let s = ((r.fits port v at).seat j (may.own j is).0).0 in
      let n = ((r.fits p u e).maker m).1 in
      let below = at_below views port v at in
      absurd (omega arith)

  -- so the maker fits as before: of a job whose seat isn't made nothing was put
  put_maker : (p : ℕ) (u : PassView) → get_elem? views p ≡ some u → u.maker ≡ true → (p ≡ 0) × (length views ≡ u.made + 2) × ((j : ℕ) → u.made ≤ j → r.head j + put_left j ≡ 0)
  put_maker p u e m = let k = (r.fits p u e).maker m in (k.0, k.1, λ j le. let z = k.2 j le in let h : held j x ≡ 0 = held_none p u e m j le (is_of j x) refl in omega (arith, z, h))

  -- the pass that put the item fits
  put_mine : Fits r.course r.all r.head put_left (length views) port (after_put v x)
  put_mine =
      let f = r.fits port v at in
      let c : v.course ≡ r.course = (f.course_is may.part).0 in
      record {
        named = f.named;
        course_is = f.course_is;
        idle = λ z. absurd (omega (arith, may.part, z));
        seat = λ j e. (let m = may.mine j e in let s = f.seat j e in
            (s.0, (let h : held j x ≡ 1 = ap (λ (b : Bool). cond b 1 0) m.0 in let l = s.1 in omega (arith, length-append v.put (x ∷ []), h, l)), subst (λ (c : List JobVisits). IsPut c j (v.put ++ x ∷ [])) c m.1));
        maker = λ e. put_maker port v at e;
        rises = f.rises;
        joined = f.joined;
        took = f.took;
      }

  -- another seat is of another job
  put_apart : (p : ℕ) (u : PassView) → p ≢ port → get_elem? views p ≡ some u → (j : ℕ) → u.job ≡ Some j → (b : Bool) → is_of j x ≡ b → one_if b ≡ 0
  put_apart p u apart e j is false b = refl
  put_apart p u apart e j is true b =
      let mine = ((r.fits port v at).seat j (may.own j b).0).0 in
      let theirs = ((r.fits p u e).seat j is).0 in
      absurd (apart (theirs ∙ sym mine))

  -- every other pass fits as before
  put_other : (p : ℕ) (u : PassView) → p ≢ port → get_elem? views p ≡ some u → Fits r.course r.all r.head put_left (length views) p u
  put_other p u apart e =
      let f = r.fits p u e in
      record {
        named = f.named;
        course_is = f.course_is;
        idle = f.idle;
        seat = λ j is. (let s = f.seat j is in (s.0, (let l = s.1 in let h : held j x ≡ 0 = put_apart p u apart e j is (is_of j x) refl in omega (arith, l, h)), s.2));
        maker = λ m. put_maker p u e m;
        rises = f.rises;
        joined = f.joined;
        took = f.took;
      }

  -- a number that is put for the first time
  mark_at : (j n : ℕ) (b : Bool) (t : ℕ) → is_of j x ≡ b → (r.head j + r.left j ≤ n → t ≡ 0) → t ≤ 1 → t + cond b (cond (seq_of x == n) 1 0) 0 ≤ 1
  mark_at j n false t is unput le = omega arith
  mark_at j n true t is unput le =
      let o = may.own j is in
      let s = (r.fits port v at).seat j o.0 in
      let l : seq_of x ≡ r.head j + r.left j = o.1 ∙ s.1 in
      mark_go (seq_of x) n t (r.head j + r.left j) l unput le

  -- numbers above the new one are not put yet
  mark_later : (j n : ℕ) (b : Bool) (t : ℕ) → is_of j x ≡ b → (r.head j + r.left j ≤ n → t ≡ 0) → r.head j + (r.left j + cond b 1 0) ≤ n → t + cond b (cond (seq_of x == n) 1 0) 0 ≡ 0
  mark_later j n false t is unput le = let z = unput (omega arith) in omega arith
  mark_later j n true t is unput le =
      let o = may.own j is in
      let s = (r.fits port v at).seat j o.0 in
      let l : seq_of x ≡ r.head j + r.left j = o.1 ∙ s.1 in
      let z : t ≡ 0 = unput (omega arith) in
      let ne : (seq_of x == n) ≡ false = grind (arith, nat_tests) in
      (ap (λ (b : Bool). t + cond b 1 0) ne ∙ omega arith)

  -- the put is counted once, in the sum over all views
  put_total : (j n : ℕ) → total (λ u. times j n (all_put u)) (set views port (after_put v x)) ≡ total (λ u. times j n (all_put u)) views + is_item j n x
  put_total j n =
      let h = is_item j n in
      let s = total_set (λ u. total h (all_put u)) views port v (after_put v x) at in
      let a = total_append h (v.put ++ x ∷ []) (concat v.puts) in
      let a2 = total_append h v.put (x ∷ []) in
      let a3 = total_append h v.put (concat v.puts) in
      omega arith

  -- and so is a close
  put_ends : (j k : ℕ) → total (λ u. ends j k (all_put u)) (set views port (after_put v x)) ≡ total (λ u. ends j k (all_put u)) views + is_end j k x
  put_ends j k =
      let h = is_end j k in
      let s = total_set (λ u. total h (all_put u)) views port v (after_put v x) at in
      let a = total_append h (v.put ++ x ∷ []) (concat v.puts) in
      let a2 = total_append h v.put (x ∷ []) in
      let a3 = total_append h v.put (concat v.puts) in
      omega arith

  -- the close k of job j is the last item put of the job, and the job's seat has put it
  abbrev IsShut : (ℕ → ℕ) → ℕ → ℕ → List PassView → Type 0
  IsShut left j k passes = (r.head j + left j ≡ k + 1) × ((p : ℕ) (u : PassView) → get_elem? passes p ≡ some u → u.job ≡ Some j → 0 < ends j k u.put)

  -- a close that is put now is the last of its job; an earlier one was, and its job's seat puts no more
  put_shut_at : (j k : ℕ) (b : Bool) → is_of j x ≡ b → 0 < total (λ u. ends j k (all_put u)) views + is_end j k x → IsShut put_left j k (set views port (after_put v x))
  put_shut_at j k false is lt =
      let z : is_end j k x ≡ 0 = is_end_other j k x is in
      let s = r.shut j k (omega arith) in
      let h : held j x ≡ 0 = ap (λ (b : Bool). cond b 1 0) is in
      let old : r.head j + r.left j ≡ k + 1 = s.0 in (
        omega arith,
        each_set (λ p u. u.job ≡ Some j → 0 < ends j k u.put) views port (after_put v x) (λ e. absurd (true≢false (sym (may.mine j e).0 ∙ is))) (λ p u apart e. s.1 p u e),
      )
  put_shut_at j k true is lt =
      let o = may.own j is in
      let seat = (r.fits port v at).seat j o.0 in
      elim (zero_or (total (λ u. ends j k (all_put u)) views)) [
        | inl none ↦
            (let here : 0 < is_end j k x = omega arith in
            let seq : seq_of x ≡ k = is_end_seq j k x here in
            let h : held j x ≡ 1 = ap (λ (b : Bool). cond b 1 0) is in
            let l : length v.put ≡ r.head j + r.left j = seat.1 in
            let m : seq_of x ≡ length v.put = o.1 in
            let a : ends j k (v.put ++ x ∷ []) ≡ ends j k v.put + ends j k (x ∷ []) = total_append (is_end j k) v.put (x ∷ []) in (
              omega arith,
              each_set (λ p u. u.job ≡ Some j → 0 < ends j k u.put) views port (after_put v x) (λ e. omega arith)
                  (λ p u apart e is'. absurd (apart (((r.fits p u e).seat j is').0 ∙ sym seat.0))),
            ))
        | inr there ↦ (let s = r.shut j k there in absurd (no_put_after v.course j k v.put x (may.mine j o.0).1 (s.1 port v at o.0)))
      ]

  -- replacing a view keeps the number of views
  length-set_at : length (set views port (after_put v x)) ≡ length views
  length-set_at = simp length-set

  -- so the invariant is kept
  put_runs : Running (items ++ x ∷ []) (set views port (after_put v x))
  put_runs =
      let w = after_put v x in
      let f = r.fits port v at in
      record {
        course = r.course;
        all = r.all;
        head = r.head;
        left = put_left;
        allowed = All-push (Allowed r.course) items x r.allowed (subst (λ (c : List JobVisits). Allowed c x) (f.course_is may.part).0 may.allowed);
        ordered = λ j. put_ordered_at j (is_of j x) refl;
        counted = let s = total_set (λ u. u.parts) views port v w at in let p = r.counted in omega (arith, s, p);
        balanced = λ h.
            (let s = total_set (λ u. total h (all_put u)) views port v w at in
            let t = total_set (λ u. total h (all_taken u)) views port v w at in
            let b = r.balanced h in
            let a = total_append h (v.put ++ x ∷ []) (concat v.puts) in
            let a2 = total_append h v.put (x ∷ []) in
            let a3 = total_append h v.put (concat v.puts) in
            let a4 = total_append h items (x ∷ []) in
            omega (arith, s, t, b, a, a2, a3, a4));
        once = λ j n. subst (λ (m : ℕ). m ≤ 1) (sym (put_total j n)) (mark_at j n (is_of j x) (total (λ u. times j n (all_put u)) views) refl (r.fresh j n) (r.once j n));
        shut = λ j k lt. put_shut_at j k (is_of j x) refl (subst (λ (n : ℕ). 0 < n) (put_ends j k) lt);
        fresh = λ j n le. put_total j n ∙ mark_later j n (is_of j x) (total (λ u. times j n (all_put u)) views) refl (r.fresh j n) le;
        fits = λ p u e. subst (λ (n : ℕ). Fits r.course r.all r.head put_left n p u) (sym length-set_at) (each_set (λ p u. Fits r.course r.all r.head put_left (length views) p u) views port w put_mine (λ p u apart e. put_other p u apart e) p u e);
      }

-- the step of the protocol in which an item is put
pub puts : (n port : ℕ) (v : PassView) (x : Item) → MayPut v x → Pushes IsQueueState n port v x (λ w. w ≡ after_put v x)
puts n port v x may items views room h at = (after_put v x, inr (put_runs port v x may items views (runs items views port v h at may.live) at), refl)
