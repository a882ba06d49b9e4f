-- All sinks were closed: what the good items say of them all.
use Rattle.std.proofs.Common.{◌≡◌, ℕ, zero, suc, ◌+◌, ◌<◌, ◌≤◌, Bool, true, List, [], ◌∷◌, ◌++◌, length, take, map, Option, Some, None, refl, sym, ◌∙◌, ap, subst, inl, inr, arith, All, slice_get, Contains, unwrap_or}
use Rattle.std.specs.Prelude.{◌==◌, cond}
use Rattle.std.proofs.lemmas.Bool.{cases_lt, cases_Bool}
use Rattle.std.proofs.lemmas.Bool.Decides.{nat_tests}
use Rattle.std.proofs.lemmas.List.{length-map}
use Rattle.std.proofs.lemmas.List.Elements.{All-head, All-tail, Contains-push_cases}
use Rattle.std.proofs.lemmas.Option.{slice_get_past, slice_get_within}
use Rattle.ix_store.specs.Store.{Blocks}
use Rattle.ix_walk.specs.JobMeaning.{JobMeaning}
use Rattle.ix_walk.specs.Arrivals.{Arrival}
use Rattle.ix_walk.specs.Visits.{arrivals_of, visit_of, visits_from, visits_of, is_over_limit}
use Rattle.ix_car.specs.declared.sink.Delivery.{Delivery}
use Rattle.ix_car.specs.declared.sink.End.{End}
use Rattle.ix_car.specs.declared.sink.End.TheVariants.{Memory, Start}
use Rattle.ix_car.specs.Events.{Event, Calls, delivery, close}
use Rattle.ix_car.specs.Verified.{judged, judged_visits}
use Rattle.ix_car.specs.Faithful.{IsFaithful, EndFits}
use Rattle.ix_car.specs.Headline.{EachDelivered, IsCheckedOnce, IsEachOnce, NoneIsStart, visit_count}
use Rattle.ix_pipeline.proofs.Members.{cases_cons, none_in, has_first, has_rest, has_got}
use Rattle.ix_stages.specs.declared.verdicted.Verdicted.{Verdicted}
use Rattle.ix_stages.specs.declared.verdicted.Verdicted.TheVariants.{Checked, Unchecked, Close, Last}
use Rattle.ix_pipeline.specs.declared.job_progress.JobProgress.{JobProgress}
use Rattle.ix_stages.specs.Received.{point, is_checked, is_unchecked, is_close, Tally, tally, pairs_of}
use Rattle.ix_stages.specs.Good.{judged_at, over_at, IsAllowed, IsGood}
use Rattle.ix_stages.specs.Totals.{total}
use Rattle.ix_pipeline.specs.JobProgress.{IsOver, IsCome, IsComeTo}
use Rattle.ix_pipeline.specs.Collected.{EachCome, AllEnded, EachEnded}
use Rattle.ix_pipeline.proofs.Counting.{point_here}
use Rattle.ix_pipeline.proofs.Goodness.{same_tests}

-- how the sink was closed, or `Memory`, as `end` returns it
abbrev pub end_or : JobProgress → End
end_or p = unwrap_or p.end Memory

-- which is how it was closed, if it was
end_known : (o : Option End) (e : End) → o ≡ Some e → o ≡ Some (unwrap_or o Memory)
end_known None e h = cc
end_known (Some f) e h = refl

-- job by job
pub ends_known : (ps : List JobProgress) → AllEnded ps → EachEnded ps (map end_or ps)
ends_known [] h = tt
ends_known (p ∷ ps) h = (let e = h.0 in end_known p.end e.0 e.1, ends_known ps h.1)

-- a pair whose count isn't 0 is in the list
pub has_pair : (j n : ℕ) (got : List Verdicted) → 0 < total (is_checked j n) got → Contains (pairs_of got) (j, n)
has_pair j n [] lt = absurd (omega arith)
has_pair j n (Checked v d ∷ got) lt =
    elim (cases_Bool (v.job == j)) [
      | inl e ↦
          elim (cases_Bool (v.seq == n)) [
            | inl f ↦
                (let job : v.job ≡ j = same_tests v.job j e in
                let seq : v.seq ≡ n = same_tests v.seq n f in
                subst (λ (k : ℕ). Contains ((v.job, v.seq) ∷ pairs_of got) (k, n)) job (subst (λ (k : ℕ). Contains ((v.job, v.seq) ∷ pairs_of got) (v.job, k)) seq (has_first (v.job, v.seq) (pairs_of got))))
            | inr f ↦ (let none : is_checked j n (Checked v d) ≡ 0 = rw e (rw f refl) in has_rest (v.job, v.seq) (pairs_of got) (j, n) (has_pair j n got (omega arith)))
          ]
      | inr e ↦ (let none : is_checked j n (Checked v d) ≡ 0 = rw e refl in has_rest (v.job, v.seq) (pairs_of got) (j, n) (has_pair j n got (omega arith)))
    ]
has_pair j n (Unchecked k m ∷ got) lt = has_pair j n got (omega arith)
has_pair j n (Close k m end ∷ got) lt = has_pair j n got (omega arith)
has_pair j n (Last ∷ got) lt = has_pair j n got (omega arith)

-- a job number is equal to itself
itself : (v w : ℕ) → cond (v == v) (point w w) 0 ≡ point w w
itself v w = let t : (v == v) ≡ true = grind (arith, nat_tests) in rw t refl

-- a pair that is in the list has a count of 1 at least
pair_counts : (j n : ℕ) (got : List Verdicted) → Contains (pairs_of got) (j, n) → 0 < total (is_checked j n) got
pair_counts j n [] h = absurd (none_in (j, n) h)
pair_counts j n (Checked v d ∷ got) h =
    elim (cases_cons (v.job, v.seq) (pairs_of got) (j, n) h) [
      | inl e ↦
          (let job : v.job ≡ j = ap (λ (p : ℕ × ℕ). p.0) e in
          let seq : v.seq ≡ n = ap (λ (p : ℕ × ℕ). p.1) e in
          let one : is_checked v.job v.seq (Checked v d) ≡ 1 = itself v.job v.seq ∙ point_here v.seq in
          let here : is_checked j n (Checked v d) ≡ 1 = subst (λ (k : ℕ). is_checked k n (Checked v d) ≡ 1) job (subst (λ (k : ℕ). is_checked v.job k (Checked v d) ≡ 1) seq one) in
          omega arith)
      | inr r ↦ (let rest : 0 < total (is_checked j n) got = pair_counts j n got r in omega arith)
    ]
pair_counts j n (Unchecked k m ∷ got) h = let rest : 0 < total (is_checked j n) got = pair_counts j n got h in omega arith
pair_counts j n (Close k m end ∷ got) h = let rest : 0 < total (is_checked j n) got = pair_counts j n got h in omega arith
pair_counts j n (Last ∷ got) h = let rest : 0 < total (is_checked j n) got = pair_counts j n got h in omega arith

-- so counts of at most 1 mean that no pair is in the list twice
pub pairs_once : (got : List Verdicted) → ((j n : ℕ) → total (is_checked j n) got ≤ 1) → IsEachOnce (pairs_of got)
pairs_once [] h = tt
pairs_once (Checked v d ∷ got) h = (
  λ (c : Contains (pairs_of got) (v.job, v.seq)).
      let rest : 0 < total (is_checked v.job v.seq) got = pair_counts v.job v.seq got c in
      let one : is_checked v.job v.seq (Checked v d) ≡ 1 = itself v.job v.seq ∙ point_here v.seq in
      let most : is_checked v.job v.seq (Checked v d) + total (is_checked v.job v.seq) got ≤ 1 = h v.job v.seq in
      absurd (omega arith),
  pairs_once got (λ j n. let most : is_checked j n (Checked v d) + total (is_checked j n) got ≤ 1 = h j n in omega arith),
)
pairs_once (Unchecked k m ∷ got) h = pairs_once got (λ j n. let most : 0 + total (is_checked j n) got ≤ 1 = h j n in omega arith)
pairs_once (Close k m end ∷ got) h = pairs_once got (λ j n. let most : 0 + total (is_checked j n) got ≤ 1 = h j n in omega arith)
pairs_once (Last ∷ got) h = pairs_once got (λ j n. let most : 0 + total (is_checked j n) got ≤ 1 = h j n in omega arith)

module _ (store : Blocks) (jobs : List JobMeaning) where
  -- the pair of a good item is that of a visit
  pub pairs_within : (got : List Verdicted) (j n : ℕ) → All (IsAllowed store jobs) got → Contains (pairs_of got) (j, n) → n < length (judged_at store jobs j)
  pairs_within [] j n a h = absurd (none_in (j, n) h)
  pairs_within (Checked v d ∷ got) j n a h =
      elim (cases_cons (v.job, v.seq) (pairs_of got) (j, n) h) [
        | inl e ↦
            (let here = All-head (IsAllowed store jobs) (Checked v d) got a in
            let lt : v.seq < length (judged_at store jobs v.job) = slice_get_within (judged_at store jobs v.job) v.seq (record { visit = v; verdict = d }) here.1 in
            subst (λ (p : ℕ × ℕ). p.1 < length (judged_at store jobs p.0)) e lt)
        | inr r ↦ pairs_within got j n (All-tail (IsAllowed store jobs) (Checked v d) got a) r
      ]
  pairs_within (Unchecked k m ∷ got) j n a h = pairs_within got j n (All-tail (IsAllowed store jobs) (Unchecked k m) got a) h
  pairs_within (Close k m end ∷ got) j n a h = pairs_within got j n (All-tail (IsAllowed store jobs) (Close k m end) got a) h
  pairs_within (Last ∷ got) j n a h = pairs_within got j n (All-tail (IsAllowed store jobs) Last got a) h

  -- a number within the jobs has that job's visits
  judged_some : (n : ℕ) (j : JobMeaning) → slice_get jobs n ≡ Some j → judged_at store jobs n ≡ judged_visits store n j
  judged_some n j e = rw e refl

  -- and exceeds the limit if that job does
  over_some : (n : ℕ) (j : JobMeaning) → slice_get jobs n ≡ Some j → over_at store jobs n ≡ is_over_limit store j
  over_some n j e = rw e refl

  -- by what is at position n of the jobs
  counts_at : (n : ℕ) (o : Option JobMeaning) → slice_get jobs n ≡ o → visit_count store jobs n ≡ length (judged_at store jobs n)
  counts_at n None e = rw e refl
  counts_at n (Some j) e = rw e (sym (length-map (visits_of store n j) (judged store)))

  -- how many visits a job has
  pub count_is : (n : ℕ) → visit_count store jobs n ≡ length (judged_at store jobs n)
  count_is n = counts_at n (slice_get jobs n) refl

  -- a job that is over got its first visits and one close, as it calls for
  faithful_of : (n : ℕ) (j : JobMeaning) (t : Tally) (end : End) (told : List Event) (refused : List Delivery)
      → slice_get jobs n ≡ Some j → IsOver (judged_at store jobs n) (over_at store jobs n) t end told refused → IsFaithful store n j end (record { events = told; failed = refused })
  faithful_of n j t end told refused e w =
      let all = judged_some n j e in
      record {
        count = w.count;
        within = subst (λ (l : List Delivery). w.count ≤ length l) all w.within;
        told = w.told ∙ ap (λ (l : List Delivery). map delivery (take w.count l) ++ close end ∷ []) all;
        fits = subst (λ (b : Bool). EndFits end w.count (judged_visits store n j) b refused) (over_some n j e) (subst (λ (l : List Delivery). EndFits end w.count l (over_at store jobs n) refused) all w.fits);
      }

  -- what is delivered has the job's number, and a number among its visits
  delivered_at : (number start count : ℕ) (among : List Arrival) (d : Delivery)
      → Contains (map delivery (take count (map (judged store) (visits_from store number start among)))) (delivery d) → (d.visit.job ≡ number) × (start ≤ d.visit.seq) × (d.visit.seq < start + count)
  delivered_at number start zero among d h = absurd (none_in (delivery d) h)
  delivered_at number start (suc count) [] d h = absurd (none_in (delivery d) h)
  delivered_at number start (suc count) (a ∷ among) d h =
      elim (cases_cons (delivery (judged store (visit_of store number start a))) (map delivery (take count (map (judged store) (visits_from store number (start + 1) among)))) (delivery d) h) [
        | inl e ↦
            (let same : judged store (visit_of store number start a) ≡ d = cc in
            let seq : start ≡ d.visit.seq = ap (λ (x : Delivery). x.visit.seq) same in
            (sym (ap (λ (x : Delivery). x.visit.job) same), omega arith, omega arith))
        | inr r ↦
            (let b = delivered_at number (start + 1) count among d r in
            let low : start + 1 ≤ d.visit.seq = b.1 in
            let lt : d.visit.seq < (start + 1) + count = b.2 in
            (b.0, omega arith, omega arith))
      ]

  -- what a sink was delivered was checked
  told_here : (got : List Verdicted) (n : ℕ) (j : JobMeaning) (end : End) (told : List Event) (refused : List Delivery) (d : Delivery)
      → slice_get jobs n ≡ Some j → IsOver (judged_at store jobs n) (over_at store jobs n) (tally n got) end told refused → Contains told (delivery d) → Contains (pairs_of got) (d.visit.job, d.visit.seq)
  told_here got n j end told refused d e w c =
      let first : List Event = map delivery (take w.count (judged_visits store n j)) in
      let is : told ≡ first ++ close end ∷ [] = w.told ∙ ap (λ (l : List Delivery). map delivery (take w.count l) ++ close end ∷ []) (judged_some n j e) in
      let there : Contains (first ++ close end ∷ []) (delivery d) = subst (λ (l : List Event). Contains l (delivery d)) is c in
      elim (Contains-push_cases first (close end) (delivery d) there) [
        | inl l ↦
            (let r = delivered_at n 0 w.count (take j.limit (arrivals_of store j)) d l in
            let lt : d.visit.seq < 0 + w.count = r.2 in
            let counts : 0 < total (is_checked n d.visit.seq) got = w.checked d.visit.seq (omega arith) in
            subst (λ (k : ℕ). Contains (pairs_of got) (k, d.visit.seq)) (sym r.0) (has_pair n d.visit.seq got counts))
        | inr same ↦ cc
      ]

module _ {S : Type 0} (calls : S → Calls) (store : Blocks) (jobs : List JobMeaning) (got : List Verdicted) where
  -- a job whose sink was closed
  over_of : (n : ℕ) (p : JobProgress) (s : S) (e : End)
      → p.end ≡ Some e → IsCome (judged_at store jobs n) (over_at store jobs n) (tally n got) p (calls s).events (calls s).failed → IsOver (judged_at store jobs n) (over_at store jobs n) (tally n got) e (calls s).events (calls s).failed
  over_of n p s e at w = subst (λ (o : Option End). IsComeTo (judged_at store jobs n) (over_at store jobs n) (tally n got) p (calls s).events (calls s).failed o) at w

  -- the jobs from a number on
  abbrev pub AreFrom : ℕ → List JobMeaning → Type 0
  AreFrom n rest = (i : ℕ) → slice_get rest i ≡ slice_get jobs (n + i)

  -- all jobs are those from 0 on
  pub from_all : AreFrom 0 jobs
  from_all i = let at : i ≡ 0 + i = omega arith in ap (λ (k : ℕ). slice_get jobs k) at

  -- without the first they are those from the next number on
  from_next : (n : ℕ) (j : JobMeaning) (rest : List JobMeaning) → AreFrom n (j ∷ rest) → AreFrom (n + 1) rest
  from_next n j rest h i = let at : n + suc i ≡ (n + 1) + i = omega arith in h (suc i) ∙ ap (λ (k : ℕ). slice_get jobs k) at

  -- the first of them is the job with that number
  from_here : (n : ℕ) (j : JobMeaning) (rest : List JobMeaning) → AreFrom n (j ∷ rest) → slice_get jobs n ≡ Some j
  from_here n j rest h = let at : n + 0 ≡ n = omega arith in sym (h 0 ∙ ap (λ (k : ℕ). slice_get jobs k) at)

  -- job by job, each sink got what its job calls for
  pub delivered_from : (n : ℕ) (rest : List JobMeaning) (ps : List JobProgress) (ss : List S) (es : List End)
      → AreFrom n rest → length ps ≡ length rest → EachCome calls store jobs got n ps ss → EachEnded ps es → EachDelivered calls store n rest es ss
  delivered_from n [] [] [] [] from len come ended = tt
  delivered_from n [] [] [] (e ∷ es) from len come ended = absurd ended
  delivered_from n [] [] (s ∷ ss) es from len come ended = absurd come
  delivered_from n [] (p ∷ ps) ss es from len come ended = absurd (omega arith)
  delivered_from n (j ∷ rest) [] ss es from len come ended = absurd (omega arith)
  delivered_from n (j ∷ rest) (p ∷ ps) [] es from len come ended = absurd come
  delivered_from n (j ∷ rest) (p ∷ ps) (s ∷ ss) [] from len come ended = absurd ended
  delivered_from n (j ∷ rest) (p ∷ ps) (s ∷ ss) (e ∷ es) from len come ended = (
    faithful_of store jobs n j (tally n got) e (calls s).events (calls s).failed (from_here n j rest from) (over_of n p s e ended.0 come.0),
    delivered_from (n + 1) rest ps ss es (from_next n j rest from) (omega arith) come.1 ended.1,
  )

  -- no job ended with `Start`
  pub started_from : (n : ℕ) (ps : List JobProgress) (ss : List S) (es : List End) → EachCome calls store jobs got n ps ss → EachEnded ps es → NoneIsStart es
  started_from n [] ss [] come ended = λ (c : Contains [] Start). none_in Start c
  started_from n [] ss (e ∷ es) come ended = absurd ended
  started_from n (p ∷ ps) [] es come ended = absurd come
  started_from n (p ∷ ps) (s ∷ ss) [] come ended = absurd ended
  started_from n (p ∷ ps) (s ∷ ss) (e ∷ es) come ended =
      let w = over_of n p s e ended.0 come.0 in λ (c : Contains (e ∷ es) Start). elim (cases_cons e es Start c) [ inl at ↦ w.started at | inr r ↦ started_from (n + 1) ps ss es come.1 ended.1 r ]

  -- what any sink was delivered was checked
  told_from : (n : ℕ) (rest : List JobMeaning) (ps : List JobProgress) (ss : List S) (es : List End) (s : S) (d : Delivery)
      → AreFrom n rest → length ps ≡ length rest → EachCome calls store jobs got n ps ss → EachEnded ps es → Contains ss s → Contains (calls s).events (delivery d) → Contains (pairs_of got) (d.visit.job, d.visit.seq)
  told_from n rest [] [] es s d from len come ended among c = absurd (none_in s among)
  told_from n rest [] (x ∷ ss) es s d from len come ended among c = absurd come
  told_from n rest (p ∷ ps) [] es s d from len come ended among c = absurd come
  told_from n [] (p ∷ ps) (x ∷ ss) es s d from len come ended among c = absurd (omega arith)
  told_from n (j ∷ rest) (p ∷ ps) (x ∷ ss) [] s d from len come ended among c = absurd ended
  told_from n (j ∷ rest) (p ∷ ps) (x ∷ ss) (e ∷ es) s d from len come ended among c =
      elim (cases_cons x ss s among) [
        | inl same ↦
            told_here store jobs got n j e (calls x).events (calls x).failed d (from_here n j rest from) (over_of n p x e ended.0 come.0)
            (subst (λ (z : S). Contains (calls z).events (delivery d)) (sym same) c)
        | inr r ↦ told_from (n + 1) rest ps ss es s d (from_next n j rest from) (omega arith) come.1 ended.1 r c
      ]

  -- each visit of a job that was walked was checked
  every_from : (n i job seq : ℕ) (ps : List JobProgress) (ss : List S) (es : List End)
      → job ≡ n + i → i < length ps → EachCome calls store jobs got n ps ss → EachEnded ps es → (slice_get es i ≡ Some Memory → ⊥) → seq < length (judged_at store jobs job) → Contains (pairs_of got) (job, seq)
  every_from n i job seq [] ss es at lt come ended walked within = absurd (omega arith)
  every_from n i job seq (p ∷ ps) [] es at lt come ended walked within = absurd come
  every_from n i job seq (p ∷ ps) (s ∷ ss) [] at lt come ended walked within = absurd ended
  every_from n zero job seq (p ∷ ps) (s ∷ ss) (e ∷ es) at lt come ended walked within =
      let same : job ≡ n = omega arith in
      let w = over_of n p s e ended.0 come.0 in
      let here : seq < length (judged_at store jobs n) = subst (λ (k : ℕ). seq < length (judged_at store jobs k)) same within in
      let counts : 0 < total (is_checked n seq) got = w.every (λ (m : e ≡ Memory). walked (ap (λ (x : End). Some x) m)) seq here in
      subst (λ (k : ℕ). Contains (pairs_of got) (k, seq)) (sym same) (has_pair n seq got counts)
  every_from n (suc i) job seq (p ∷ ps) (s ∷ ss) (e ∷ es) at lt come ended walked within =
      every_from (n + 1) i job seq ps ss es (omega arith) (omega arith) come.1 ended.1 walked within

  -- a number that has visits is that of a job
  job_below : (job seq : ℕ) → seq < length (judged_at store jobs job) → job < length jobs
  job_below job seq lt =
      elim (cases_lt job (length jobs)) [
        | inl less ↦ less
        | inr past ↦
            (let none : slice_get jobs job ≡ None = slice_get_past jobs job past in
            let zero_then : visit_count store jobs job ≡ 0 = rw none refl in
            let same : visit_count store jobs job ≡ length (judged_at store jobs job) = count_is store jobs job in
            absurd (omega arith))
      ]

  -- the same by the end of the job alone
  every_at : (job seq : ℕ) (ps : List JobProgress) (ss : List S) (es : List End)
      → length ps ≡ length jobs → EachCome calls store jobs got 0 ps ss → EachEnded ps es → (slice_get es job ≡ Some Memory → ⊥) → seq < visit_count store jobs job → Contains (pairs_of got) (job, seq)
  every_at job seq ps ss es len come ended walked lt =
      let within : seq < length (judged_at store jobs job) = subst (λ (k : ℕ). seq < k) (count_is store jobs job) lt in
      let there : job < length jobs = job_below job seq within in
      every_from 0 job job seq ps ss es (omega arith) (omega arith) come ended walked within

  -- each visit was checked as often as it is to be: those delivered, and in a job that didn't run out of memory all
  pub checked_from : (ps : List JobProgress) (ss : List S) (es : List End)
      → IsGood store jobs got → length ps ≡ length jobs → EachCome calls store jobs got 0 ps ss → EachEnded ps es → IsCheckedOnce calls store jobs es ss (pairs_of got)
  checked_from ps ss es good len come ended = record {
    once = pairs_once got
        (λ j n. let most : total (is_checked j n) got + total (is_unchecked j n) got + total (is_close j n) got ≤ 1 = good.once j n in omega arith);
    within = λ job seq c. subst (λ (k : ℕ). seq < k) (sym (count_is store jobs job)) (pairs_within store jobs got job seq good.allowed c);
    delivered = λ s d among c. told_from 0 jobs ps ss es s d from_all len come ended among c;
    every = λ job seq walked lt. every_at job seq ps ss es len come ended walked.0 lt;
    all = λ walked job seq lt. every_at job seq ps ss es len come ended (λ e. walked.0 (has_got es job Memory e)) lt;
  }

module _ (store : Blocks) (jobs : List JobMeaning) (got : List Verdicted) where
  -- of good items no pair is checked twice, and each pair is that of a visit
  pub good_pairs : IsGood store jobs got → IsEachOnce (pairs_of got) × ((job seq : ℕ) → Contains (pairs_of got) (job, seq) → seq < visit_count store jobs job)
  good_pairs good = (
    pairs_once got (λ j n. let most : total (is_checked j n) got + total (is_unchecked j n) got + total (is_close j n) got ≤ 1 = good.once j n in omega arith),
    λ job seq c. subst (λ (k : ℕ). seq < k) (sym (count_is store jobs job)) (pairs_within store jobs got job seq good.allowed c),
  )
