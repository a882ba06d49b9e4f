-- What good items say of each job.
use Rattle.std.proofs.Common.{◌≡◌, ℕ, zero, suc, ◌+◌, ◌<◌, ◌≤◌, Bool, true, false, List, [], ◌∷◌, ◌++◌, length, Some, refl, sym, ◌∙◌, ap, subst, inl, inr, arith, All}
use Rattle.std.specs.Prelude.{◌==◌, cond, slice_get}
use Rattle.std.proofs.lemmas.Bool.{cases_lt}
use Rattle.std.proofs.lemmas.Bool.Decides.{nat_tests}
use Rattle.std.proofs.lemmas.List.Elements.{All-head, All-tail, All-cons}
use Rattle.std.proofs.lemmas.Option.{slice_get_within, same_Some}
use Rattle.ix_store.specs.Store.{Blocks}
use Rattle.ix_walk.specs.JobMeaning.{JobMeaning}
use Rattle.ix_car.specs.declared.sink.Delivery.{Delivery}
use Rattle.ix_car.specs.declared.sink.End.{End}
use Rattle.ix_car.specs.declared.sink.End.TheVariants.{Done, Limit, Memory, Write, Start}
use Rattle.ix_stages.specs.declared.verdicted.Verdicted.{Verdicted}
use Rattle.ix_stages.specs.declared.verdicted.Verdicted.TheVariants.{Checked, Unchecked, Close, Last}
use Rattle.ix_stages.specs.Received.{point, is_checked, is_unchecked, is_close, is_of, tally, seen, Inserts, job_of}
use Rattle.ix_stages.specs.Good.{judged_at, over_at, IsCloseOf, IsAllowed, IsGood}
use Rattle.ix_stages.specs.Totals.{total}
use Rattle.ix_stages.proofs.Running.{one_if}
use Rattle.ix_stages.proofs.Totals.{total_append}
use Rattle.ix_pipeline.specs.JobProgress.{below, IsFine, IsItem}
use Rattle.ix_pipeline.proofs.Counting.{point_here, point_else}

-- an item counts wherever it is
pub total_inserts : (h : Verdicted → ℕ) (x : Verdicted) (got more : List Verdicted) → Inserts x got more → total h more ≡ h x + total h got
total_inserts h x got more i =
    let a : total h got ≡ total h i.before + total h i.after = ap (λ (l : List Verdicted). total h l) i.got_is ∙ total_append h i.before i.after in
    let b : total h more ≡ total h i.before + (h x + total h i.after) = ap (λ (l : List Verdicted). total h l) i.more_is ∙ total_append h i.before (x ∷ i.after) in
    omega arith

-- what holds of all holds of the item in the middle and of all others
all_parts : (P : Verdicted → Type 0) (xs : List Verdicted) (x : Verdicted) (ys : List Verdicted) → All P (xs ++ x ∷ ys) → All P (xs ++ ys) × P x
all_parts P [] x ys h = (All-tail P x ys h, All-head P x ys h)
all_parts P (z ∷ xs) x ys h = let r = all_parts P xs x ys (All-tail P z (xs ++ x ∷ ys) h) in (All-cons P z (xs ++ ys) (All-head P z (xs ++ x ∷ ys) h) r.0, r.1)

-- good items without one of them are good, and that one may be sent
pub good_before : (store : Blocks) (jobs : List JobMeaning) (x : Verdicted) (got more : List Verdicted) → Inserts x got more → IsGood store jobs more → IsGood store jobs got × IsAllowed store jobs x
good_before store jobs x got more i g =
    let there : All (IsAllowed store jobs) (i.before ++ x ∷ i.after) = subst (λ (l : List Verdicted). All (IsAllowed store jobs) l) i.more_is g.allowed in
    let parts = all_parts (IsAllowed store jobs) i.before x i.after there in (
      record {
        allowed = subst (λ (l : List Verdicted). All (IsAllowed store jobs) l) (sym i.got_is) parts.0;
        once = λ j n.
            let a : total (is_checked j n) more ≡ is_checked j n x + total (is_checked j n) got = total_inserts (is_checked j n) x got more i in
            let b : total (is_unchecked j n) more ≡ is_unchecked j n x + total (is_unchecked j n) got = total_inserts (is_unchecked j n) x got more i in
            let c : total (is_close j n) more ≡ is_close j n x + total (is_close j n) got = total_inserts (is_close j n) x got more i in
            let most : total (is_checked j n) more + total (is_unchecked j n) more + total (is_close j n) more ≤ 1 = g.once j n in
            omega arith;
        last = λ j k n closed lt.
            let a : total (is_checked j n) more ≡ is_checked j n x + total (is_checked j n) got = total_inserts (is_checked j n) x got more i in
            let b : total (is_unchecked j n) more ≡ is_unchecked j n x + total (is_unchecked j n) got = total_inserts (is_unchecked j n) x got more i in
            let c : total (is_close j n) more ≡ is_close j n x + total (is_close j n) got = total_inserts (is_close j n) x got more i in
            let d : total (is_close j k) more ≡ is_close j k x + total (is_close j k) got = total_inserts (is_close j k) x got more i in
            let none : total (is_checked j n) more + total (is_unchecked j n) more + total (is_close j n) more ≡ 0 = g.last j k n (omega arith) lt in
            omega arith;
        small = g.small;
      },
      parts.1,
    )

-- a sum of sums
below_sum : (f g h : ℕ → ℕ) (n : ℕ) → ((k : ℕ) → f k ≡ g k + h k) → below f n ≡ below g n + below h n
below_sum f g h zero e = omega arith
below_sum f g h (suc n) e = let here : f n ≡ g n + h n = e n in let rest : below f n ≡ below g n + below h n = below_sum f g h n e in omega arith

-- a sum of zeros
below_none : (f : ℕ → ℕ) (n : ℕ) → ((k : ℕ) → f k ≡ 0) → below f n ≡ 0
below_none f zero e = refl
below_none f (suc n) e = let here : f n ≡ 0 = e n in let rest : below f n ≡ 0 = below_none f n e in omega arith

-- equal functions have equal sums
below_same : (f g : ℕ → ℕ) (n : ℕ) → ((k : ℕ) → f k ≡ g k) → below f n ≡ below g n
below_same f g zero e = refl
below_same f g (suc n) e = let here : f n ≡ g n = e n in let rest : below f n ≡ below g n = below_same f g n e in omega arith

-- a point past the bound adds nothing
below_beyond : (m n : ℕ) → n ≤ m → below (point m) n ≡ 0
below_beyond m zero le = refl
below_beyond m (suc n) le = let here : point m n ≡ 0 = point_else m n (λ (h : n ≡ m). absurd (omega arith)) in let rest : below (point m) n ≡ 0 = below_beyond m n (omega arith) in omega arith

-- a point below the bound adds 1
below_point : (m n : ℕ) → m < n → below (point m) n ≡ 1
below_point m zero lt = absurd (omega arith)
below_point m (suc n) lt =
    elim (cases_lt m n) [
      | inl less ↦ (let here : point m n ≡ 0 = point_else m n (λ (h : n ≡ m). absurd (omega arith)) in let rest : below (point m) n ≡ 1 = below_point m n less in omega arith)
      | inr more ↦
          (let same : m ≡ n = omega arith in
          let here : point m n ≡ 1 = subst (λ (i : ℕ). point m i ≡ 1) same (point_here m) in
          let rest : below (point m) n ≡ 0 = below_beyond m n more in
          omega arith)
    ]

-- 1 if x is of job j and has the number n, and else 0
abbrev pub seen_here : ℕ → Verdicted → ℕ → ℕ
seen_here j x n = is_checked j n x + is_unchecked j n x + is_close j n x

-- an item of the job has one number, and an item of another job none
hit_below : (b : Bool) (m n : ℕ) → (b ≡ true → m < n) → below (λ k. cond b (point m k) 0) n ≡ cond b 1 0
hit_below true m n h = below_point m n (h refl)
hit_below false m n h = below_none (λ k. 0) n (λ k. refl)

-- the test decides equality
pub same_tests : (a b : ℕ) → (a == b) ≡ true → a ≡ b
same_tests a b e = grind (arith, nat_tests)

-- the number of a close is at most that of the visits
close_bound : (end : End) (n : ℕ) (all : List Delivery) (over : Bool) → IsCloseOf end n all over → n ≤ length all
close_bound Done n all over c = let e : n ≡ length all = c.0 in omega arith
close_bound Limit n all over c = let e : n ≡ length all = c.0 in omega arith
close_bound Memory n all over c = c
close_bound Write n all over c = absurd c
close_bound Start n all over c = absurd c

module _ (store : Blocks) (jobs : List JobMeaning) (j : ℕ) where
  -- the number of an item of the job is within the job's visits and their close
  item_below : (x : Verdicted) → IsAllowed store jobs x → below (seen_here j x) (suc (length (judged_at store jobs j))) ≡ is_of j x
  item_below (Checked v d) a =
      below_same (seen_here j (Checked v d)) (λ k. cond (v.job == j) (point v.seq k) 0) (suc (length (judged_at store jobs j))) (λ k. omega arith)
      ∙ hit_below (v.job == j) v.seq (suc (length (judged_at store jobs j)))
      (λ e.
      let lt : v.seq < length (judged_at store jobs v.job) = slice_get_within (judged_at store jobs v.job) v.seq (record { visit = v; verdict = d }) a.1 in
      let here : v.seq < length (judged_at store jobs j) = subst (λ (i : ℕ). v.seq < length (judged_at store jobs i)) (same_tests v.job j e) lt in
      omega arith)
  item_below (Unchecked i n) a =
      below_same (seen_here j (Unchecked i n)) (λ k. cond (i == j) (point n k) 0) (suc (length (judged_at store jobs j))) (λ k. omega arith)
      ∙ hit_below (i == j) n (suc (length (judged_at store jobs j))) (λ e. let here : n < length (judged_at store jobs j) = subst (λ (i : ℕ). n < length (judged_at store jobs i)) (same_tests i j e) a.1 in omega arith)
  item_below (Close i n end) a =
      below_same (seen_here j (Close i n end)) (λ k. cond (i == j) (point n k) 0) (suc (length (judged_at store jobs j))) (λ k. omega arith)
      ∙ hit_below (i == j) n (suc (length (judged_at store jobs j)))
      (λ e.
      let le : n ≤ length (judged_at store jobs i) = close_bound end n (judged_at store jobs i) (over_at store jobs i) a.1 in
      let here : n ≤ length (judged_at store jobs j) = subst (λ (i : ℕ). n ≤ length (judged_at store jobs i)) (same_tests i j e) le in
      omega arith)
  item_below Last a = below_none (seen_here j Last) (suc (length (judged_at store jobs j))) (λ k. refl)

  -- so the count of a job's items is the sum over its numbers
  all_below : (got : List Verdicted) → All (IsAllowed store jobs) got → (tally j got).count ≡ below (seen (tally j got)) (suc (length (judged_at store jobs j)))
  all_below [] a = sym (below_none (seen (tally j [])) (suc (length (judged_at store jobs j))) (λ k. refl))
  all_below (x ∷ got) a =
      let size = suc (length (judged_at store jobs j)) in
      let here : below (seen_here j x) size ≡ is_of j x = item_below x (All-head (IsAllowed store jobs) x got a) in
      let rest : total (is_of j) got ≡ below (seen (tally j got)) size = all_below got (All-tail (IsAllowed store jobs) x got a) in
      let both : below (seen (tally j (x ∷ got))) size ≡ below (seen_here j x) size + below (seen (tally j got)) size =
      below_sum (seen (tally j (x ∷ got))) (seen_here j x) (seen (tally j got)) size
      (λ k. sum_of (is_checked j k x) (is_unchecked j k x) (is_close j k x) (total (is_checked j k) got) (total (is_unchecked j k) got) (total (is_close j k) got))
      in
      omega arith
    where
      sum_of : (a b c d e f : ℕ) → (a + d) + (b + e) + (c + f) ≡ (a + b + c) + (d + e + f)
      sum_of a b c d e f = omega arith

  -- a number below n isn't n
  beyond_here : (b : Bool) (m n : ℕ) → (b ≡ true → m < n) → cond b (point m n) 0 ≡ 0
  beyond_here true m n h = let lt : m < n = h refl in point_else m n (λ (e : n ≡ m). absurd (omega arith))
  beyond_here false m n h = refl

  -- no item has a number above that of all visits and their close
  item_beyond : (x : Verdicted) (n : ℕ) → IsAllowed store jobs x → length (judged_at store jobs j) < n → seen_here j x n ≡ 0
  item_beyond (Checked v d) n a lt =
      let none : cond (v.job == j) (point v.seq n) 0 ≡ 0 =
      beyond_here (v.job == j) v.seq n
      (λ e.
      let le : v.seq < length (judged_at store jobs v.job) = slice_get_within (judged_at store jobs v.job) v.seq (record { visit = v; verdict = d }) a.1 in
      let here : v.seq < length (judged_at store jobs j) = subst (λ (i : ℕ). v.seq < length (judged_at store jobs i)) (same_tests v.job j e) le in
      omega arith)
      in
      omega arith
  item_beyond (Unchecked i m) n a lt =
      let none : cond (i == j) (point m n) 0 ≡ 0 = beyond_here (i == j) m n (λ e. let here : m < length (judged_at store jobs j) = subst (λ (i : ℕ). m < length (judged_at store jobs i)) (same_tests i j e) a.1 in omega arith) in omega arith
  item_beyond (Close i m end) n a lt =
      let none : cond (i == j) (point m n) 0 ≡ 0 =
      beyond_here (i == j) m n
      (λ e.
      let le : m ≤ length (judged_at store jobs i) = close_bound end m (judged_at store jobs i) (over_at store jobs i) a.1 in
      let here : m ≤ length (judged_at store jobs j) = subst (λ (i : ℕ). m ≤ length (judged_at store jobs i)) (same_tests i j e) le in
      omega arith)
      in
      omega arith
  item_beyond Last n a lt = refl

  -- item by item
  all_beyond : (got : List Verdicted) (n : ℕ) → All (IsAllowed store jobs) got → length (judged_at store jobs j) < n → seen (tally j got) n ≡ 0
  all_beyond [] n a lt = refl
  all_beyond (x ∷ got) n a lt =
      let here : is_checked j n x + is_unchecked j n x + is_close j n x ≡ 0 = item_beyond x n (All-head (IsAllowed store jobs) x got a) lt in
      let rest : total (is_checked j n) got + total (is_unchecked j n) got + total (is_close j n) got ≡ 0 = all_beyond got n (All-tail (IsAllowed store jobs) x got a) lt in
      omega arith

  -- good items are fine for each job
  pub fine_of : (got : List Verdicted) → IsGood store jobs got → IsFine (judged_at store jobs j) (tally j got)
  fine_of got g = record { small = (let s = g.small j in omega (arith, s)); once = g.once j; last = g.last j; within = λ n. all_beyond got n g.allowed; counted = all_below got g.allowed }

  -- an item of the job counts at its number
  hit_here : (i n m : ℕ) → i ≡ j → cond (i == j) (point n m) 0 ≡ point n m
  hit_here i n m e = let t : (i == j) ≡ true = grind (arith, nat_tests) in rw t refl

  -- and as one item
  count_here : (i : ℕ) → i ≡ j → one_if (i == j) ≡ 1
  count_here i e = let t : (i == j) ≡ true = grind (arith, nat_tests) in rw t refl

  -- an item of the job comes
  pub item_of : (x : Verdicted) (got more : List Verdicted) → Inserts x got more → IsAllowed store jobs x → job_of x ≡ Some j → IsItem (judged_at store jobs j) (over_at store jobs j) x (tally j got) (tally j more)
  item_of (Checked v d) got more i a e =
      let same : v.job ≡ j = same_Some v.job j e in (
        subst (λ (k : ℕ). slice_get (judged_at store jobs k) v.seq ≡ Some (record { visit = v; verdict = d })) same a.1,
        record {
          checked_is = λ n. total_inserts (is_checked j n) (Checked v d) got more i ∙ ap (λ (k : ℕ). k + total (is_checked j n) got) (hit_here v.job v.seq n same);
          unchecked_is = λ n. total_inserts (is_unchecked j n) (Checked v d) got more i;
          closes_is = λ n. total_inserts (is_close j n) (Checked v d) got more i;
          count_is = total_inserts (is_of j) (Checked v d) got more i ∙ ap (λ (k : ℕ). k + total (is_of j) got) (count_here v.job same);
        },
      )
  item_of (Unchecked k m) got more i a e =
      let same : k ≡ j = same_Some k j e in (
        subst (λ (k : ℕ). m < length (judged_at store jobs k)) same a.1,
        record {
          checked_is = λ n. total_inserts (is_checked j n) (Unchecked k m) got more i;
          unchecked_is = λ n. total_inserts (is_unchecked j n) (Unchecked k m) got more i ∙ ap (λ (z : ℕ). z + total (is_unchecked j n) got) (hit_here k m n same);
          closes_is = λ n. total_inserts (is_close j n) (Unchecked k m) got more i;
          count_is = total_inserts (is_of j) (Unchecked k m) got more i ∙ ap (λ (z : ℕ). z + total (is_of j) got) (count_here k same);
        },
      )
  item_of (Close k m end) got more i a e =
      let same : k ≡ j = same_Some k j e in (
        subst (λ (k : ℕ). IsCloseOf end m (judged_at store jobs k) (over_at store jobs k)) same a.1,
        record {
          checked_is = λ n. total_inserts (is_checked j n) (Close k m end) got more i;
          unchecked_is = λ n. total_inserts (is_unchecked j n) (Close k m end) got more i;
          closes_is = λ n. total_inserts (is_close j n) (Close k m end) got more i ∙ ap (λ (z : ℕ). z + total (is_close j n) got) (hit_here k m n same);
          count_is = total_inserts (is_of j) (Close k m end) got more i ∙ ap (λ (z : ℕ). z + total (is_of j) got) (count_here k same);
        },
      )
  item_of Last got more i a e = cc

  -- an item of another job doesn't count
  miss : (i n m : ℕ) → (i ≡ j → ⊥) → cond (i == j) (point n m) 0 ≡ 0
  miss i n m ne = let t : (i == j) ≡ false = grind (arith, nat_tests) in rw t refl

  -- nor as one item
  count_miss : (i : ℕ) → (i ≡ j → ⊥) → one_if (i == j) ≡ 0
  count_miss i ne = let t : (i == j) ≡ false = grind (arith, nat_tests) in rw t refl

  -- so no count of this job sees it
  pub nothing_of : (x : Verdicted) → (job_of x ≡ Some j → ⊥) → ((n : ℕ) → is_checked j n x ≡ 0) × ((n : ℕ) → is_unchecked j n x ≡ 0) × ((n : ℕ) → is_close j n x ≡ 0) × (is_of j x ≡ 0)
  nothing_of (Checked v d) ne = let other : v.job ≡ j → ⊥ = (λ e. ne (ap Some e)) in ((λ n. miss v.job v.seq n other), (λ n. refl), (λ n. refl), count_miss v.job other)
  nothing_of (Unchecked i m) ne = let other : i ≡ j → ⊥ = (λ e. ne (ap Some e)) in ((λ n. refl), (λ n. miss i m n other), (λ n. refl), count_miss i other)
  nothing_of (Close i m end) ne = let other : i ≡ j → ⊥ = (λ e. ne (ap Some e)) in ((λ n. refl), (λ n. refl), (λ n. miss i m n other), count_miss i other)
  nothing_of Last ne = ((λ n. refl), (λ n. refl), (λ n. refl), refl)

-- an item of weight 0 changes no total
unmoved : (h : Verdicted → ℕ) (x : Verdicted) (got more : List Verdicted) → Inserts x got more → h x ≡ 0 → total h more ≡ total h got
unmoved h x got more i e = let all : total h more ≡ h x + total h got = total_inserts h x got more i in omega arith

-- an item of another job changes no count of this one
pub tally_same : (store : Blocks) (jobs : List JobMeaning) (j : ℕ) (x : Verdicted) (got more : List Verdicted) → Inserts x got more → (job_of x ≡ Some j → ⊥) → tally j got ≡ tally j more
tally_same store jobs j x got more i ne =
    let none = nothing_of store jobs j x ne in
    let checked : (n : ℕ) → total (is_checked j n) got ≡ total (is_checked j n) more = λ n. sym (unmoved (is_checked j n) x got more i (none.0 n)) in
    let unchecked : (n : ℕ) → total (is_unchecked j n) got ≡ total (is_unchecked j n) more = λ n. sym (unmoved (is_unchecked j n) x got more i (none.1 n)) in
    let closes : (n : ℕ) → total (is_close j n) got ≡ total (is_close j n) more = λ n. sym (unmoved (is_close j n) x got more i (none.2 n)) in
    let count : total (is_of j) got ≡ total (is_of j) more = sym (unmoved (is_of j) x got more i none.3) in
    λ k. record { checked = λ n. checked n k; unchecked = λ n. unchecked n k; closes = λ n. closes n k; count = count k }
