-- What is sent for good items is good.
use Rattle.std.proofs.Common.{◌≡◌, ℕ, zero, suc, ◌+◌, ◌≤◌, List, [], ◌∷◌, ◌++◌, map, Option, Some, None, slice_get, All, refl, sym, ◌∙◌, ap, subst, arith}
use Rattle.std.specs.Prelude.{◌==◌, cond}
use Rattle.std.proofs.lemmas.List.Elements.{All-head, All-tail, All-cons, All-nil}
use Rattle.std.proofs.lemmas.Option.{slice_get_within}
use Rattle.ix_walk.specs.declared.visit.Visit.{Visit}
use Rattle.ix_store.specs.Store.{Blocks}
use Rattle.ix_walk.specs.JobMeaning.{JobMeaning}
use Rattle.ix_verdict.specs.declared.verdict.Verdict.{Verdict}
use Rattle.ix_car.specs.declared.sink.Delivery.{Delivery}
use Rattle.ix_car.specs.declared.sink.End.{End}
use Rattle.ix_car.specs.Verified.{judged}
use Rattle.ix_stages.specs.declared.item.Item.{Item}
use Rattle.ix_stages.specs.declared.item.Item.TheVariants as taken
use Rattle.ix_stages.specs.declared.verdicted.Verdicted.{Verdicted}
use Rattle.ix_stages.specs.declared.verdicted.Verdicted.TheVariants.{Checked, Unchecked, Close, Last}
use Rattle.ix_stages.specs.Received.{point, is_checked, is_unchecked, is_close, pairs_of}
use Rattle.ix_stages.specs.Good.{judged_at, IsAllowed, IsGood}
use Rattle.ix_stages.specs.Sent.{visits_at, Answers, SentFor, IsOfCourse, is_item, is_end, IsGoodTaken}
use Rattle.ix_stages.specs.Totals.{total}

-- the element of a mapped list
get_map : {X Y : Type 0} (f : X → Y) (xs : List X) (k : ℕ) (x : X) → slice_get xs k ≡ Some x → slice_get (map f xs) k ≡ Some (f x)
get_map f [] k x e = cc
get_map f (y ∷ ys) zero x e = let same : y ≡ x = cc in ap (λ z. Some (f z)) same
get_map f (y ∷ ys) (suc k) x e = get_map f ys k x e

module _ (store : Blocks) (jobs : List JobMeaning) where
  -- by what is at position n of the jobs
  judged_by : (n : ℕ) (o : Option JobMeaning) → slice_get jobs n ≡ o → judged_at store jobs n ≡ map (judged store) (visits_at store jobs n)
  judged_by n None e = rw e refl
  judged_by n (Some j) e = rw e refl

  -- the visits with their verdicts are those of the walk, with what the store's check says
  judged_is : (n : ℕ) → judged_at store jobs n ≡ map (judged store) (visits_at store jobs n)
  judged_is n = judged_by n (slice_get jobs n) refl

  -- a visit of the course is with its verdict among those of the job
  judged_there : (v : Visit) → slice_get (visits_at store jobs v.job) v.seq ≡ Some v → slice_get (judged_at store jobs v.job) v.seq ≡ Some (judged store v)
  judged_there v e = ap (λ (l : List Delivery). slice_get l v.seq) (judged_is v.job) ∙ get_map (judged store) (visits_at store jobs v.job) v.seq v e

  -- the answer to an item that may be taken may be sent
  one_allowed : (x : Item) (y : Verdicted) → IsOfCourse store jobs x → Answers store x y → IsAllowed store jobs y
  one_allowed (taken.Visit v) (Checked w d) a s =
      subst (λ (u : Visit). IsAllowed store jobs (Checked u d)) (sym s.0) (subst (λ (x : Verdict). IsAllowed store jobs (Checked v x)) (sym s.1) (a.0, judged_there v a.1))
  one_allowed (taken.Visit v) (Unchecked j n) a s =
      subst (λ (k : ℕ). IsAllowed store jobs (Unchecked k n)) (sym s.0)
      (subst (λ (m : ℕ). IsAllowed store jobs (Unchecked v.job m)) (sym s.1) (a.0, slice_get_within (judged_at store jobs v.job) v.seq (judged store v) (judged_there v a.1)))
  one_allowed (taken.Visit v) (Close j n end) a s = absurd s
  one_allowed (taken.Visit v) Last a s = absurd s
  one_allowed (taken.Close j n end) (Checked w d) a s = absurd s
  one_allowed (taken.Close j n end) (Unchecked k m) a s = absurd s
  one_allowed (taken.Close j n end) (Close k m e) a s =
      subst (λ (i : ℕ). IsAllowed store jobs (Close i m e)) (sym s.0) (subst (λ (i : ℕ). IsAllowed store jobs (Close j i e)) (sym s.1) (subst (λ (x : End). IsAllowed store jobs (Close j n x)) (sym s.2) a))
  one_allowed (taken.Close j n end) Last a s = absurd s
  one_allowed taken.Stop (Checked w d) a s = absurd s
  one_allowed taken.Stop (Unchecked j n) a s = absurd s
  one_allowed taken.Stop (Close j n end) a s = absurd s
  one_allowed taken.Stop Last a s = tt

  -- answer by answer
  all_allowed : (xs : List Item) (ys : List Verdicted) → All (IsOfCourse store jobs) xs → SentFor store xs ys → All (IsAllowed store jobs) ys
  all_allowed [] [] a s = All-nil (IsAllowed store jobs)
  all_allowed [] (y ∷ ys) a s = absurd s
  all_allowed (x ∷ xs) [] a s = absurd s
  all_allowed (x ∷ xs) (y ∷ ys) a s =
      All-cons (IsAllowed store jobs) y ys (one_allowed x y (All-head (IsOfCourse store jobs) x xs a) s.0) (all_allowed xs ys (All-tail (IsOfCourse store jobs) x xs a) s.1)

  -- equal visits count alike
  visit_seen : (j n : ℕ) (v w : Visit) → w ≡ v → cond (w.job == j) (point w.seq n) 0 ≡ cond (v.job == j) (point v.seq n) 0
  visit_seen j n v w e = ap (λ (u : Visit). is_item j n (taken.Visit u)) e

  -- and so do equal pairs
  pair_seen : (j n a b c d : ℕ) → a ≡ c → b ≡ d → cond (a == j) (point b n) 0 ≡ cond (c == j) (point d n) 0
  pair_seen j n a b c d e f = subst (λ (i : ℕ). cond (a == j) (point b n) 0 ≡ cond (i == j) (point d n) 0) e (ap (λ (i : ℕ). cond (a == j) (point i n) 0) f)

  -- an answer has the job and number of its item
  one_seen : (j n : ℕ) (x : Item) (y : Verdicted) → Answers store x y → is_checked j n y + is_unchecked j n y + is_close j n y ≡ is_item j n x
  one_seen j n (taken.Visit v) (Checked w d) s = let e : cond (w.job == j) (point w.seq n) 0 ≡ cond (v.job == j) (point v.seq n) 0 = visit_seen j n v w s.0 in omega arith
  one_seen j n (taken.Visit v) (Unchecked k m) s = let e : cond (k == j) (point m n) 0 ≡ cond (v.job == j) (point v.seq n) 0 = pair_seen j n k m v.job v.seq s.0 s.1 in omega arith
  one_seen j n (taken.Visit v) (Close k m end) s = absurd s
  one_seen j n (taken.Visit v) Last s = absurd s
  one_seen j n (taken.Close i q end) (Checked w d) s = absurd s
  one_seen j n (taken.Close i q end) (Unchecked k m) s = absurd s
  one_seen j n (taken.Close i q end) (Close k m e) s = let same : cond (k == j) (point m n) 0 ≡ cond (i == j) (point q n) 0 = pair_seen j n k m i q s.0 s.1 in omega arith
  one_seen j n (taken.Close i q end) Last s = absurd s
  one_seen j n taken.Stop (Checked w d) s = absurd s
  one_seen j n taken.Stop (Unchecked k m) s = absurd s
  one_seen j n taken.Stop (Close k m end) s = absurd s
  one_seen j n taken.Stop Last s = refl

  -- answer by answer
  all_seen : (j n : ℕ) (xs : List Item) (ys : List Verdicted) → SentFor store xs ys → total (is_checked j n) ys + total (is_unchecked j n) ys + total (is_close j n) ys ≡ total (is_item j n) xs
  all_seen j n [] [] s = refl
  all_seen j n [] (y ∷ ys) s = absurd s
  all_seen j n (x ∷ xs) [] s = absurd s
  all_seen j n (x ∷ xs) (y ∷ ys) s =
      let here : is_checked j n y + is_unchecked j n y + is_close j n y ≡ is_item j n x = one_seen j n x y s.0 in
      let rest : total (is_checked j n) ys + total (is_unchecked j n) ys + total (is_close j n) ys ≡ total (is_item j n) xs = all_seen j n xs ys s.1 in
      omega arith

  -- an answer is a close where its item is
  one_end : (j n : ℕ) (x : Item) (y : Verdicted) → Answers store x y → is_close j n y ≡ is_end j n x
  one_end j n (taken.Visit v) (Checked w d) s = refl
  one_end j n (taken.Visit v) (Unchecked k m) s = refl
  one_end j n (taken.Visit v) (Close k m end) s = absurd s
  one_end j n (taken.Visit v) Last s = absurd s
  one_end j n (taken.Close i q end) (Checked w d) s = absurd s
  one_end j n (taken.Close i q end) (Unchecked k m) s = absurd s
  one_end j n (taken.Close i q end) (Close k m e) s = pair_seen j n k m i q s.0 s.1
  one_end j n (taken.Close i q end) Last s = absurd s
  one_end j n taken.Stop (Checked w d) s = absurd s
  one_end j n taken.Stop (Unchecked k m) s = absurd s
  one_end j n taken.Stop (Close k m end) s = absurd s
  one_end j n taken.Stop Last s = refl

  -- answer by answer
  all_ends : (j n : ℕ) (xs : List Item) (ys : List Verdicted) → SentFor store xs ys → total (is_close j n) ys ≡ total (is_end j n) xs
  all_ends j n [] [] s = refl
  all_ends j n [] (y ∷ ys) s = absurd s
  all_ends j n (x ∷ xs) [] s = absurd s
  all_ends j n (x ∷ xs) (y ∷ ys) s =
      let here : is_close j n y ≡ is_end j n x = one_end j n x y s.0 in let rest : total (is_close j n) ys ≡ total (is_end j n) xs = all_ends j n xs ys s.1 in omega arith

  -- so what is sent for good items is good
  pub good_of_taken : (xs : List Item) (ys : List Verdicted) → IsGoodTaken store jobs xs → SentFor store xs ys → IsGood store jobs ys
  good_of_taken xs ys g s = record {
    allowed = all_allowed xs ys g.allowed s;
    once = λ j n.
        let same : total (is_checked j n) ys + total (is_unchecked j n) ys + total (is_close j n) ys ≡ total (is_item j n) xs = all_seen j n xs ys s in let most : total (is_item j n) xs ≤ 1 = g.once j n in omega arith;
    last = λ j k n closed lt.
        let same : total (is_checked j n) ys + total (is_unchecked j n) ys + total (is_close j n) ys ≡ total (is_item j n) xs = all_seen j n xs ys s in
        let ends : total (is_close j k) ys ≡ total (is_end j k) xs = all_ends j k xs ys s in
        let none : total (is_item j n) xs ≡ 0 = g.last j k n (omega arith) lt in
        omega arith;
    small = g.small;
  }

-- the answers of two verifiers, one after the other
pub sent_append : (store : Blocks) (xs : List Item) (ys : List Verdicted) (us : List Item) (vs : List Verdicted) → SentFor store xs ys → SentFor store us vs → SentFor store (xs ++ us) (ys ++ vs)
sent_append store [] [] us vs a b = b
sent_append store [] (y ∷ ys) us vs a b = absurd a
sent_append store (x ∷ xs) [] us vs a b = absurd a
sent_append store (x ∷ xs) (y ∷ ys) us vs a b = (a.0, sent_append store xs ys us vs a.1 b)

-- and the pairs that they checked
pub pairs_append : (xs ys : List Verdicted) → pairs_of (xs ++ ys) ≡ pairs_of xs ++ pairs_of ys
pairs_append [] ys = refl
pairs_append (Checked v d ∷ xs) ys = ap (λ (l : List (ℕ × ℕ)). (v.job, v.seq) ∷ l) (pairs_append xs ys)
pairs_append (Unchecked j n ∷ xs) ys = pairs_append xs ys
pairs_append (Close j n end ∷ xs) ys = pairs_append xs ys
pairs_append (Last ∷ xs) ys = pairs_append xs ys
