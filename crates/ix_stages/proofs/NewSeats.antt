-- The course gets its name and seats are made: the rule of the queue is kept.
use Rattle.std.proofs.Common.{◌≡◌, ◌≢◌, ℕ, zero, suc, ◌+◌, ◌<◌, true, false, true≢false, List, [], ◌∷◌, ◌++◌, length, set, sym, refl, ap, ◌∙◌, subst, inl, inr, arith, length-append, Some}
use Rattle.std.proofs.Math.ListN.{length-set}
use Rattle.std.proofs.lemmas.List.Elements.{All-nil}
use Rattle.std.specs.Prelude.{All}
use mathlib.Core.Option.{some, some-ne-none, some-injective}
use lib.ListN.{get_elem?}
use Rattle.crossbeam_queue.specs.Fifo.{Forks}
use Rattle.std.proofs.lemmas.Option.{none-some}
use Rattle.ix_stages.specs.declared.item.Item.{Item}
use Rattle.ix_stages.specs.declared.course.JobVisits.{JobVisits}
use Rattle.ix_stages.specs.declared.pass_view.PassView.{PassView}
use Rattle.ix_stages.specs.Items.{numbers, Rises, concat}
use Rattle.ix_stages.specs.Sent.{is_item}
use Rattle.ix_stages.specs.Course.{Allowed, times, ends}
use Rattle.ix_stages.specs.PassViews.{blank, spent, root, after_seat, job_pass, take_pass, all_put, all_taken}
use Rattle.ix_stages.specs.QueueState.{Fits, Running, IsQueueState}
use Rattle.ix_stages.specs.Totals.{total}
use Rattle.ix_stages.proofs.Totals.{total_set, total_snoc, each_set, each_snoc}
use Rattle.ix_stages.proofs.Running.{runs, spent_fits}

-- the pass that makes the seats fits an empty queue
root_fits : (c : List JobVisits) (n : ℕ) → Fits c n (λ _. 0) (λ _. 0) 2 0 (root c n)
root_fits c n = record {
  named = refl;
  course_is = λ _. (refl, refl);
  idle = λ _. (refl, refl);
  seat = λ j e. absurd (none-some j e);
  maker = λ _. (refl, refl, λ j le. refl);
  rises = λ j. omega arith;
  joined = λ j k t e. absurd (some-ne-none t (sym e));
  took = All-nil (Allowed c);
}

-- the two views after the naming fit: the maker and what is left of the blank pass
named_at : (c : List JobVisits) (n : ℕ) (p : ℕ) (u : PassView) → get_elem? (root c n ∷ spent ∷ []) p ≡ some u → Fits c n (λ _. 0) (λ _. 0) 2 p u
named_at c n zero u e = subst (λ (w : PassView). Fits c n (λ _. 0) (λ _. 0) 2 0 w) (some-injective (root c n) u e) (root_fits c n)
named_at c n (suc zero) u e = subst (λ (w : PassView). Fits c n (λ _. 0) (λ _. 0) 2 1 w) (some-injective spent u e) (spent_fits c n (λ _. 0) (λ _. 0) 2 1)
named_at c n (suc (suc p)) u e = absurd (some-ne-none u (sym e))

-- so the invariant holds of them
named_runs : (c : List JobVisits) (n : ℕ) → Running [] (root c n ∷ spent ∷ [])
named_runs c n = record {
  course = c;
  all = n;
  head = λ _. 0;
  left = λ _. 0;
  allowed = All-nil (Allowed c);
  ordered = λ j. refl;
  counted = omega arith;
  balanced = λ h. refl;
  once = λ j n. omega arith;
  fresh = λ j n le. refl;
  shut = λ j k lt. absurd (omega arith);
  fits = named_at c n;
}

-- the same in the form of a fork, at whichever position the blank pass was
names_go : (c : List JobVisits) (n : ℕ) (port : ℕ) → get_elem? (blank ∷ []) port ≡ some blank → Running [] (set (blank ∷ []) port (root c n) ++ spent ∷ [])
names_go c n zero at = named_runs c n
names_go c n (suc p) at = absurd (some-ne-none blank (sym at))

-- the step of the protocol that names the course
pub names : (c : List JobVisits) (n : ℕ) (port : ℕ) → Forks IsQueueState port blank (root c n) spent
names c n port items views (inl b) at =
    let at' : get_elem? (blank ∷ []) port ≡ some blank = ap (λ (l : List PassView). get_elem? l port) (sym b.1) ∙ at in
    inr (subst (λ (y : List Item × List PassView). Running y.0 (set y.1 port (root c n) ++ spent ∷ [])) (λ i. (sym b.0 i, sym b.1 i)) (names_go c n port at'))
names c n port items views (inr r) at = absurd (true≢false ((r.fits port blank at).named))

-- a new seat: it has nothing, and a job's seat is that of the next number
pub record IsNewSeat (v w : PassView) : Type 0 where
  pub live : w.blank ≡ false
  pub parts : w.parts ≡ 1
  pub course : (w.course ≡ v.course) × (w.all ≡ v.all)
  pub maker : w.maker ≡ false
  pub job : (j : ℕ) → w.job ≡ Some j → j ≡ v.made
  pub lists : (w.put ≡ []) × (w.taken ≡ []) × (w.puts ≡ []) × (w.takens ≡ [])

module _ (port : ℕ) (v w : PassView) (live : v.blank ≡ false) (makes : v.maker ≡ true) (part : 1 < v.parts) (new : IsNewSeat v w) (items : List Item) (views : List PassView) (r : Running items views) (at : get_elem? views port ≡ some v) where
  -- the maker fits with one seat less and one view more
  fork_mine : Fits r.course r.all r.head r.left (length views + 1) port (after_seat v)
  fork_mine =
      let f = r.fits port v at in
      let z : 0 < v.parts = omega (arith, part) in
      record {
        named = f.named;
        course_is = λ _. f.course_is z;
        idle = λ e. absurd (omega (arith, part, e));
        seat = f.seat;
        maker = λ m. (let k = f.maker m in (k.0, (let c = k.1 in omega (arith, c)), λ j le. k.2 j (omega (arith, le))));
        rises = f.rises;
        joined = f.joined;
        took = f.took;
      }

  -- no other view depends on the number of views, as there is one maker
  fork_other : (p : ℕ) (u : PassView) → p ≢ port → get_elem? views p ≡ some u → Fits r.course r.all r.head r.left (length views + 1) p u
  fork_other p u apart e =
      let f = r.fits p u e in
      record {
        named = f.named;
        course_is = f.course_is;
        idle = f.idle;
        seat = f.seat;
        maker = λ m. absurd (apart ((f.maker m).0 ∙ sym ((r.fits port v at).maker makes).0));
        rises = f.rises;
        joined = f.joined;
        took = f.took;
      }

  -- a new seat has put nothing
  fork_no_put : all_put w ≡ []
  fork_no_put = ap (λ (l : List Item). l ++ concat w.puts) new.lists.0 ∙ ap concat new.lists.2

  -- and taken nothing
  fork_no_taken : all_taken w ≡ []
  fork_no_taken = ap (λ (l : List Item). l ++ concat w.takens) new.lists.1 ∙ ap concat new.lists.3

  -- so it fits as the seat of the next job, or as one of no job
  fork_new : Fits r.course r.all r.head r.left (length views + 1) (length views) w
  fork_new =
      let f = r.fits port v at in
      let k = f.maker makes in
      let c = f.course_is (omega (arith, part)) in
      record {
        named = new.live;
        course_is = λ _. (new.course.0 ∙ c.0, new.course.1 ∙ c.1);
        idle = λ _. (fork_no_put, fork_no_taken);
        seat = λ j e. (let is = new.job j e in let n = k.1 in (omega (arith, is, n), ap length new.lists.0 ∙ sym (k.2 j (omega (arith, is))), (0, omega arith, inl new.lists.0)));
        maker = λ m. absurd (true≢false (sym m ∙ new.maker));
        rises = λ j. subst (λ (l : List Item). Rises 0 (r.head j) (numbers j l)) (sym new.lists.1) (omega arith);
        joined = λ j k t e. absurd (some-ne-none t (sym (ap (λ (l : List (List Item)). get_elem? l k) (sym new.lists.3) ∙ e)));
        took = subst (λ (l : List Item). All (Allowed r.course) l) (sym fork_no_taken) (All-nil (Allowed r.course));
      }

  -- the sums over the views stay as they are
  fork_total : (j n : ℕ) → total (λ u. times j n (all_put u)) (set views port (after_seat v) ++ w ∷ []) ≡ total (λ u. times j n (all_put u)) views
  fork_total j n =
      let h = is_item j n in
      let s = total_set (λ u. total h (all_put u)) views port v (after_seat v) at in
      let s2 = total_snoc (λ u. total h (all_put u)) (set views port (after_seat v)) w in
      let z : total h (all_put w) ≡ 0 = ap (total h) fork_no_put in
      omega arith

  -- so the invariant is kept
  fork_runs : Running items (set views port (after_seat v) ++ w ∷ [])
  fork_runs =
      let a = after_seat v in
      let n : length views + 1 ≡ length (set views port a ++ w ∷ []) = simp (length-append, length-set) in
      let m : length (set views port a) ≡ length views = simp length-set in
      let f = r.fits port v at in
      let no_put : all_put w ≡ [] = fork_no_put in
      let no_taken : all_taken w ≡ [] = fork_no_taken in
      record {
        course = r.course;
        all = r.all;
        head = r.head;
        left = r.left;
        allowed = r.allowed;
        ordered = r.ordered;
        counted = let s = total_set (λ u. u.parts) views port v a at in let t = total_snoc (λ u. u.parts) (set views port a) w in let p = r.counted in let q = new.parts in omega (arith, s, t, p, q, part);
        balanced = λ h.
            (let s = total_set (λ u. total h (all_put u)) views port v a at in
            let s2 = total_snoc (λ u. total h (all_put u)) (set views port a) w in
            let t = total_set (λ u. total h (all_taken u)) views port v a at in
            let t2 = total_snoc (λ u. total h (all_taken u)) (set views port a) w in
            let z : total h (all_put w) ≡ 0 = ap (total h) no_put in
            let z2 : total h (all_taken w) ≡ 0 = ap (total h) no_taken in
            let b = r.balanced h in
            omega (arith, s, s2, t, t2, b, z, z2));
        once = λ j n. (let s = fork_total j n in let o = r.once j n in omega (arith, s, o));
        shut = λ j k lt.
            (let s = total_set (λ u. ends j k (all_put u)) views port v a at in
            let s2 = total_snoc (λ u. ends j k (all_put u)) (set views port a) w in
            let z : ends j k (all_put w) ≡ 0 = ap (ends j k) no_put in
            let old = r.shut j k (omega (arith, s, s2, z, lt)) in (
              old.0,
              each_snoc (λ p u. u.job ≡ Some j → 0 < ends j k u.put) (set views port a) w
                  (each_set (λ p u. u.job ≡ Some j → 0 < ends j k u.put) views port a (old.1 port v at) (λ p u apart e. old.1 p u e))
                  (λ e. let is = new.job j e in let none : r.head j + r.left j ≡ 0 = (f.maker makes).2 j (omega (arith, is)) in let some : r.head j + r.left j ≡ k + 1 = old.0 in absurd (omega arith)),
            ));
        fresh = λ j n le. fork_total j n ∙ r.fresh j n le;
        fits = λ p u e. subst (λ (n : ℕ). Fits r.course r.all r.head r.left n p u) n
            (each_snoc (λ p u. Fits r.course r.all r.head r.left (length views + 1) p u) (set views port a) w
            (each_set (λ p u. Fits r.course r.all r.head r.left (length views + 1) p u) views port a fork_mine (λ p u apart e. fork_other p u apart e))
            (subst (λ (n : ℕ). Fits r.course r.all r.head r.left (length views + 1) n w) (sym m) fork_new) p u e);
      }

-- the step of the protocol in which a seat is made
pub forks : (port : ℕ) (v w : PassView) → v.blank ≡ false → v.maker ≡ true → 1 < v.parts → IsNewSeat v w → Forks IsQueueState port v (after_seat v) w
forks port v w live makes part new items views h at = inr (fork_runs port v w live makes part new items views (runs items views port v h at live) at)

-- the seat of the next job is a new seat
pub job_seat_is_new : (v : PassView) → IsNewSeat v (job_pass v)
job_seat_is_new v = record { live = refl; parts = refl; course = (refl, refl); maker = refl; job = λ j e. (let is : v.made ≡ j = cc in sym is); lists = (refl, refl, refl, refl) }

-- a consumer's seat is a new seat
pub take_seat_is_new : (v : PassView) → IsNewSeat v (take_pass v)
take_seat_is_new v = record { live = refl; parts = refl; course = (refl, refl); maker = refl; job = λ j e. absurd (none-some j e); lists = (refl, refl, refl, refl) }
