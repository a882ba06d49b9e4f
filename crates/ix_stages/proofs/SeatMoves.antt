-- What a seat may do, and what it is afterwards.
use Rattle.std.proofs.Common.{◌≡◌, ℕ, zero, suc, ◌+◌, ◌<◌, ◌≤◌, true, false, true≢false, List, [], ◌∷◌, ◌++◌, length, take, map, sym, refl, ap, ◌∙◌, subst, inl, inr, arith, Some, None}
use Rattle.std.specs.Prelude.{slice_get}
use Rattle.std.proofs.lemmas.List.{map-append, length-map, length-take}
use Rattle.std.proofs.lemmas.Bool.Decides.{nat_tests}
use Rattle.std.proofs.lemmas.List.Elements.{All-head, All-tail}
use Rattle.ix_walk.specs.declared.visit.Visit.{Visit}
use Rattle.ix_stages.specs.declared.item.Item.{Item}
use Rattle.ix_stages.specs.declared.item.Item.TheVariants as item
use Rattle.ix_stages.specs.declared.course.JobVisits.{JobVisits}
use Rattle.ix_stages.specs.declared.pass_view.PassView.{PassView}
use Rattle.ix_stages.specs.Items.{is_of, seq_of, count_up}
use Rattle.ix_stages.specs.Course.{course_visits, Allowed, IsPut, opened, IsCourse}
use Rattle.ix_stages.specs.PassViews.{after_put}
use Rattle.ix_stages.specs.Seats.{IsJobPass, next_after, closed_after}
use Rattle.ix_stages.proofs.QueuePuts.{MayPut}
use Rattle.ix_stages.proofs.Numbers.{count_up-snoc}

-- the first n + 1 elements are the first n and the element at n
pub take_next : (l : List Visit) (n : ℕ) (v : Visit) → slice_get l n ≡ Some v → (take (n + 1) l ≡ take n l ++ v ∷ []) × (n + 1 ≤ length l)
take_next [] n v e = absurd (cc)
take_next (x ∷ xs) zero v e = let is : x ≡ v = cc in (ap (λ y. y ∷ []) is, omega arith)
take_next (x ∷ xs) (suc n) v e =
    let ih = take_next xs n v e in
    let le = ih.1 in
    let s : suc n + 1 ≡ suc (n + 1) = omega arith in
    (ap (λ m. take m (x ∷ xs)) s ∙ ap (λ l. x ∷ l) ih.0, omega (arith, le))

-- an item is of one job at most
one_job : (j k : ℕ) (x : Item) → is_of j x ≡ true → is_of k x ≡ true → j ≡ k
one_job j k (item.Visit v) a b = let p : v.job ≡ j = grind (arith, nat_tests) in let q : v.job ≡ k = grind (arith, nat_tests) in sym p ∙ q
one_job j k (item.Close i n e) a b = let p : i ≡ j = grind (arith, nat_tests) in let q : i ≡ k = grind (arith, nat_tests) in sym p ∙ q
one_job j k item.Stop a b = absurd (true≢false (sym a))

-- the first n visits are n, if there are so many
pub length-opened : (c : List JobVisits) (j n : ℕ) → n ≤ length (course_visits c j) → length (opened c j n) ≡ n
length-opened c j n le = simp (length-map, length-take) (omega arith)

-- the next item makes a longer prefix of the visits, or closes it
put_is : (c : List JobVisits) (j n : ℕ) (x : Item) → n ≤ length (course_visits c j) → is_of j x ≡ true → seq_of x ≡ n → Allowed c x → IsPut c j (opened c j n ++ x ∷ [])
put_is c j n (item.Visit v) le is seq may =
    let k : v.job ≡ j = grind (arith, nat_tests) in
    let at : slice_get (course_visits c j) n ≡ Some v = subst (λ (y : ℕ × ℕ). slice_get (course_visits c y.0) y.1 ≡ Some v) (λ t. (k t, seq t)) may in
    let t = take_next (course_visits c j) n v at in
    (n + 1, t.1, inl (sym (ap (map item.Visit) t.0 ∙ map-append item.Visit (take n (course_visits c j)) (v ∷ []))))
put_is c j n (item.Close k m e) le is seq may =
    let i : k ≡ j = grind (arith, nat_tests) in
    (n, le, inr (e, (λ t. opened c j n ++ item.Close (i t) (seq t) e ∷ []), rw (i, seq) at may))
put_is c j n item.Stop le is seq may = absurd (true≢false (sym is))

-- the contract of `try_put` gives what the protocol asks of a put
pub may_put : (v : PassView) (j n : ℕ) (x : Item) → IsJobPass v j n false → is_of j x ≡ true → seq_of x ≡ n → Allowed v.course x → MayPut v x
may_put v j n x h is seq may =
    let put = h.while_open refl in
    let len : length v.put ≡ n = ap length put ∙ length-opened v.course j n h.small.0 in
    record {
      live = h.alone.live;
      part = (let p = h.part in omega (arith, p));
      allowed = may;
      own = λ k e. (let q = one_job j k x is e in (h.job ∙ ap Some q, seq ∙ sym len));
      mine = λ k e. (let q : j ≡ k = cc (h.job, e) in (
        subst (λ (i : ℕ). is_of i x ≡ true) q is,
        subst (λ (i : ℕ). IsPut v.course i (v.put ++ x ∷ [])) q (subst (λ (l : List Item). IsPut v.course j (l ++ x ∷ [])) (sym put) (put_is v.course j n x h.small.0 is seq may)),
      ));
    }

-- the seat after the item: it has put one visit more, or is closed
pub next_pass : (v : PassView) (j n : ℕ) (x : Item) → IsJobPass v j n false → is_of j x ≡ true → seq_of x ≡ n → Allowed v.course x → IsJobPass (after_put v x) j (next_after n x) (closed_after x)
next_pass v j n (item.Visit w) h is seq may =
    let k : w.job ≡ j = grind (arith, nat_tests) in
    let at : slice_get (course_visits v.course j) n ≡ Some w = subst (λ (y : ℕ × ℕ). slice_get (course_visits v.course y.0) y.1 ≡ Some w) (λ t. (k t, seq t)) may in
    let t = take_next (course_visits v.course j) n w at in
    record {
      alone = record { live = h.alone.live; lists = h.alone.lists };
      part = h.part;
      maker = h.maker;
      job = h.job;
      taken = h.taken;
      small = (t.1, h.small.1);
      while_open = λ _. ap (λ (l : List Item). l ++ item.Visit w ∷ []) (h.while_open refl) ∙ sym (ap (map item.Visit) t.0 ∙ map-append item.Visit (take n (course_visits v.course j)) (w ∷ []));
      once_closed = λ f. absurd (true≢false (sym f));
    }
next_pass v j n (item.Close k m e) h is seq may =
    let i : k ≡ j = grind (arith, nat_tests) in
    record {
      alone = record { live = h.alone.live; lists = h.alone.lists };
      part = h.part;
      maker = h.maker;
      job = h.job;
      taken = h.taken;
      small = h.small;
      while_open = λ f. absurd (true≢false f);
      once_closed = λ _. (e, (λ t. h.while_open refl t ++ item.Close (i t) (seq t) e ∷ []), rw (i, seq) at may);
    }
next_pass v j n item.Stop h is seq may = absurd (true≢false (sym is))

-- a Stop is of no job
pub may_stop : (v : PassView) → v.blank ≡ false → 0 < v.parts → v.job ≡ None → MayPut v item.Stop
may_stop v live part none = record { live = live; part = part; allowed = tt; own = λ j e. absurd (true≢false (sym e)); mine = λ j e. (let q : ⊥ = cc (none, e) in absurd q) }

-- after a visit the next number is one higher
pub next_one : (j n : ℕ) (x : Item) → is_of j x ≡ true → closed_after x ≡ false → next_after n x ≡ n + 1
next_one j n (item.Visit v) is stays = refl
next_one j n (item.Close k m e) is stays = absurd (true≢false stays)
next_one j n item.Stop is stays = absurd (true≢false (sym is))

-- a small course has fewer than 2^32 visits of each job
pub IsCourse-at : (c : List JobVisits) (j : ℕ) → IsCourse c → length (course_visits c j) ≤ 4294967295
IsCourse-at [] j h = omega arith
IsCourse-at (p ∷ ps) zero h = All-head (λ p. length p.visits ≤ 4294967295) p ps h
IsCourse-at (p ∷ ps) (suc j) h = IsCourse-at ps j (All-tail (λ p. length p.visits ≤ 4294967295) p ps h)

-- one seat more at the end of those made so far
pub map-count_up : {A : Type 0} (f : ℕ → A) (k : ℕ) → map f (count_up 0 (k + 1)) ≡ map f (count_up 0 k) ++ f k ∷ []
map-count_up f k = let e : 0 + k ≡ k = omega arith in ap (map f) (count_up-snoc 0 k) ∙ (map-append f (count_up 0 k) ((0 + k) ∷ []) ∙ ap (λ (m : ℕ). map f (count_up 0 k) ++ f m ∷ []) e)
