-- Jobs that were exported one after another.
use Rattle.std.proofs.Common.{◌≡◌, ℕ, zero, suc, ◌+◌, ◌<◌, ◌≤◌, List, [], ◌∷◌, ◌++◌, length, get_or, set, take, drop, map, Option, Some, None, slice_get, Contains, refl, sym, ◌∙◌, ap, subst, inl, inr, arith, take_all, drop-set-lt, length-append, length-set}
use Rattle.std.proofs.lemmas.List.{take_more, take_more_set, drop_more}
use Rattle.std.proofs.lemmas.List.Elements.{Contains-append_left, Contains-append_right, Contains-append_cases, Contains-push_cases}
use Rattle.ix_store.specs.Store.{Blocks}
use Rattle.ix_walk.specs.JobMeaning.{JobMeaning}
use Rattle.ix_walk.specs.Arrivals.{Arrival}
use Rattle.ix_walk.specs.Visits.{arrivals_of, visit_of, visits_from, visits_of}
use Rattle.ix_car.specs.declared.sink.Delivery.{Delivery}
use Rattle.ix_car.specs.declared.sink.End.{End}
use Rattle.ix_car.specs.declared.sink.End.TheVariants.{Memory, Start}
use Rattle.ix_car.specs.Events.{Event, Calls, delivery, close}
use Rattle.ix_car.specs.Verified.{judged, judged_visits}
use Rattle.ix_car.specs.Faithful.{IsFaithful}
use Rattle.ix_car.specs.Archived.{IsArchived}
use Rattle.ix_pipeline.proofs.Members.{cases_cons, none_in, has_got}
use Rattle.ix_pipeline.proofs.Kept.{kept_same}
use Rattle.ix_pipeline.proofs.ThreadClosings.{kept_set}
use Rattle.ix_pipeline.specs.Progress.{pairs_of, IsExported, Exports}
use Rattle.ix_pipeline.specs.Headline.{EachDelivered, EachArchived, EachFresh, Fact, Keeps, EachKept, IsCheckedOnce, NoneIsStart, visit_count}
use Rattle.ix_pipeline.proofs.Pairs.{pairs_over, in_pairs, has_pair, once_over, over_push}

-- what is delivered of visits has the job's number, and a number among them
delivered_at : (store : Blocks) (number start count : ℕ) (found : List Arrival) (d : Delivery)
    → Contains (map delivery (take count (map (judged store) (visits_from store number start found)))) (delivery d) → (d.visit.job ≡ number) × (d.visit.seq < start + count)
delivered_at store number start zero found d h = absurd (none_in (delivery d) h)
delivered_at store number start (suc count) [] d h = absurd (none_in (delivery d) h)
delivered_at store number start (suc count) (a ∷ found) d h =
    elim (cases_cons (delivery (judged store (visit_of store number start a))) (map delivery (take count (map (judged store) (visits_from store number (start + 1) found)))) (delivery d) h) [
      | inl e ↦
          (let same : judged store (visit_of store number start a) ≡ d = cc in
          let seq : start ≡ d.visit.seq = ap (λ (x : Delivery). x.visit.seq) same in
          (sym (ap (λ (x : Delivery). x.visit.job) same), omega arith))
      | inr r ↦ (let b = delivered_at store number (start + 1) count found d r in let lt : d.visit.seq < (start + 1) + count = b.1 in (b.0, omega arith))
    ]

-- how many visits a job has
pub count_some : (store : Blocks) (jobs : List JobMeaning) (n : ℕ) (j : JobMeaning) → slice_get jobs n ≡ Some j → visit_count store jobs n ≡ length (visits_of store n j)
count_some store jobs n j e = rw e refl

-- a job number that is not in the list has no visits
pub count_none : (store : Blocks) (jobs : List JobMeaning) (n : ℕ) → slice_get jobs n ≡ None → visit_count store jobs n ≡ 0
count_none store jobs n e = rw e refl

module _ {S : Type 0} (calls : S → Calls) where
  -- job by job, from a number on: each was exported, and so many of its visits checked
  abbrev pub EachExported : Blocks → ℕ → List JobMeaning → List End → List S → List ℕ → Type 0
  EachExported store n [] [] [] [] = Unit {0}
  EachExported store n (j ∷ js) (e ∷ es) (s ∷ ss) (k ∷ ks) = IsExported store n j e (calls s) k × EachExported store (n + 1) js es ss ks
  EachExported store n js es ss ks = ⊥

  -- each exported sink was delivered to faithfully, by induction over the jobs
  pub delivers : (store : Blocks) (n : ℕ) (js : List JobMeaning) (es : List End) (ss : List S) (ks : List ℕ) → EachExported store n js es ss ks → EachDelivered calls store n js es ss
  delivers store n [] [] [] [] h = tt
  delivers store n (j ∷ js) (e ∷ es) (s ∷ ss) (k ∷ ks) h = let x = h.0 in (x.faithful, delivers store (n + 1) js es ss ks h.1)
  delivers store n js es ss ks h = absurd h

  -- where each is delivered, each is archived, by the law of archives
  pub archived_of_delivered : ((store : Blocks) (number : ℕ) (job : JobMeaning) (end : End) (got : Calls) → IsFaithful store number job end got → IsArchived store number job end got)
      → (store : Blocks) (n : ℕ) (js : List JobMeaning) (es : List End) (ss : List S) → EachDelivered calls store n js es ss → EachArchived calls store n js es ss
  archived_of_delivered law store n [] [] [] h = tt
  archived_of_delivered law store n (j ∷ js) (e ∷ es) (s ∷ ss) h = (law store n j e (calls s) h.0, archived_of_delivered law store (n + 1) js es ss h.1)
  archived_of_delivered law store n js es ss h = absurd h

  -- one job more
  pub exported_push : (store : Blocks) (n m : ℕ) (js : List JobMeaning) (es : List End) (ss : List S) (ks : List ℕ) (j : JobMeaning) (e : End) (s : S) (k : ℕ)
      → m ≡ n + length ks → EachExported store n js es ss ks → IsExported store m j e (calls s) k → EachExported store n (js ++ j ∷ []) (es ++ e ∷ []) (ss ++ s ∷ []) (ks ++ k ∷ [])
  exported_push store n m [] [] [] [] j e s k at h x =
      let same : m ≡ n = omega arith in (subst (λ (i : ℕ). IsExported store i j e (calls s) k) same x, tt)
  exported_push store n m (j' ∷ js) (e' ∷ es) (s' ∷ ss) (k' ∷ ks) j e s k at h x = (h.0, exported_push store (n + 1) m js es ss ks j e s k (omega arith) h.1 x)
  exported_push store n m js es ss ks j e s k at h x = absurd h

  -- on one thread no job ends with Start, as each was walked
  none_is_start : (store : Blocks) (n : ℕ) (js : List JobMeaning) (es : List End) (ss : List S) (ks : List ℕ) → EachExported store n js es ss ks → NoneIsStart es
  none_is_start store n [] [] [] [] h = λ (c : Contains [] Start). none_in Start c
  none_is_start store n (j ∷ js) (e ∷ es) (s ∷ ss) (k ∷ ks) h =
      λ (c : Contains (e ∷ es) Start). elim (cases_cons e es Start c) [ inl at ↦ (let x = h.0 in x.started at) | inr r ↦ none_is_start store (n + 1) js es ss ks h.1 r ]
  none_is_start store n js es ss ks h = absurd h

  -- a pair that was checked is that of a visit
  within_at : (store : Blocks) (n : ℕ) (js : List JobMeaning) (es : List End) (ss : List S) (ks : List ℕ) (job seq : ℕ) → EachExported store n js es ss ks → Contains (pairs_over n ks) (job, seq)
      → (i : ℕ) × (j : JobMeaning) × (job ≡ n + i) × (slice_get js i ≡ Some j) × (seq < length (visits_of store job j))
  within_at store n [] [] [] [] job seq h c = absurd (none_in (job, seq) c)
  within_at store n (j ∷ js) (e ∷ es) (s ∷ ss) (k ∷ ks) job seq h c =
      elim (Contains-append_cases (pairs_of n k) (pairs_over (n + 1) ks) (job, seq) c) [
        | inl l ↦
            (let r = in_pairs n k job seq l in
            let x = h.0 in
            let here : job ≡ n = r.0 in
            let below : seq < k = r.1 in
            let within : k ≤ length (visits_of store n j) = x.within in
            (0, j, omega arith, refl, subst (λ (m : ℕ). seq < length (visits_of store m j)) (sym here) (omega arith)))
        | inr r ↦ (let w = within_at store (n + 1) js es ss ks job seq h.1 r in let at : job ≡ (n + 1) + w.0 = w.2 in (suc w.0, w.1, omega arith, w.3, w.4))
      ]
  within_at store n js es ss ks job seq h c = absurd h

  -- each visit of a job that was walked was checked
  all_at : (store : Blocks) (n : ℕ) (js : List JobMeaning) (es : List End) (ss : List S) (ks : List ℕ) (i : ℕ) (j : JobMeaning) (job seq : ℕ)
      → EachExported store n js es ss ks → (slice_get es i ≡ Some Memory → ⊥) → job ≡ n + i → slice_get js i ≡ Some j → seq < length (visits_of store job j) → Contains (pairs_over n ks) (job, seq)
  all_at store n [] [] [] [] i j job seq h walked at found lt = absurd (nothing i found) where
    nothing : (i : ℕ) → slice_get [] i ≡ Some j → ⊥
    nothing i e = cc
  all_at store n (j' ∷ js) (e ∷ es) (s ∷ ss) (k ∷ ks) zero j job seq h walked at found lt =
      let x = h.0 in
      let same : j' ≡ j = cc in
      let here : job ≡ n = omega arith in
      let whole : k ≡ length (visits_of store n j') = x.all (λ (m : e ≡ Memory). walked (ap (λ (y : End). Some y) m)) in
      let size : length (visits_of store n j') ≡ length (visits_of store job j) = ap (λ (y : JobMeaning). length (visits_of store n y)) same ∙ ap (λ (m : ℕ). length (visits_of store m j)) (sym here) in
      let below : seq < k = omega arith in
      Contains-append_left (pairs_of n k) (pairs_over (n + 1) ks) (job, seq) (subst (λ (m : ℕ). Contains (pairs_of n k) (m, seq)) (sym here) (has_pair n k seq below))
  all_at store n (j' ∷ js) (e ∷ es) (s ∷ ss) (k ∷ ks) (suc i) j job seq h walked at found lt =
      Contains-append_right (pairs_of n k) (pairs_over (n + 1) ks) (job, seq)
      (all_at store (n + 1) js es ss ks i j job seq h.1 walked (omega arith) found lt)
  all_at store n js es ss ks i j job seq h walked at found lt = absurd h

  -- what was delivered of a job is checked
  told_here : (store : Blocks) (n : ℕ) (j : JobMeaning) (e : End) (got : Calls) (k : ℕ) (d : Delivery) → IsExported store n j e got k → Contains got.events (delivery d) → Contains (pairs_of n k) (d.visit.job, d.visit.seq)
  told_here store n j e got k d x c =
      let f = x.faithful in
      let first : List Event = map delivery (take f.count (judged_visits store n j)) in
      let there : Contains (first ++ close e ∷ []) (delivery d) = subst (λ (l : List Event). Contains l (delivery d)) f.told c in
      elim (Contains-push_cases first (close e) (delivery d) there) [
        | inl l ↦
            (let r = delivered_at store n 0 f.count (take j.limit (arrivals_of store j)) d l in
            let lt : d.visit.seq < 0 + f.count = r.1 in
            let le : f.count ≤ k = x.delivered in
            subst (λ (m : ℕ). Contains (pairs_of n k) (m, d.visit.seq)) (sym r.0) (has_pair n k d.visit.seq (omega arith)))
        | inr same ↦ cc
      ]

  told_at : (store : Blocks) (n : ℕ) (js : List JobMeaning) (es : List End) (ss : List S) (ks : List ℕ) (s : S) (d : Delivery)
      → EachExported store n js es ss ks → Contains ss s → Contains (calls s).events (delivery d) → Contains (pairs_over n ks) (d.visit.job, d.visit.seq)
  told_at store n [] [] [] [] s d h among c = absurd (none_in s among)
  told_at store n (j ∷ js) (e ∷ es) (s' ∷ ss) (k ∷ ks) s d h among c =
      elim (cases_cons s' ss s among) [
        | inl same ↦
            Contains-append_left (pairs_of n k) (pairs_over (n + 1) ks) (d.visit.job, d.visit.seq)
            (told_here store n j e (calls s') k d h.0 (subst (λ (x : S). Contains (calls x).events (delivery d)) (sym same) c))
        | inr rest ↦ Contains-append_right (pairs_of n k) (pairs_over (n + 1) ks) (d.visit.job, d.visit.seq) (told_at store (n + 1) js es ss ks s d h.1 rest c)
      ]
  told_at store n js es ss ks s d h among c = absurd h

  all_of : (store : Blocks) (jobs : List JobMeaning) (es : List End) (ss : List S) (ks : List ℕ) (job seq : ℕ) (o : Option JobMeaning)
      → EachExported store 0 jobs es ss ks → (slice_get es job ≡ Some Memory → ⊥) → slice_get jobs job ≡ o → seq < visit_count store jobs job → Contains (pairs_over 0 ks) (job, seq)
  all_of store jobs es ss ks job seq None h walked found lt = let none : visit_count store jobs job ≡ 0 = count_none store jobs job found in absurd (omega arith)
  all_of store jobs es ss ks job seq (Some j) h walked found lt =
      all_at store 0 jobs es ss ks job j job seq h walked (omega arith) found (subst (λ (n : ℕ). seq < n) (count_some store jobs job j found) lt)

  checked_once : (store : Blocks) (jobs : List JobMeaning) (es : List End) (ss : List S) (ks : List ℕ) → EachExported store 0 jobs es ss ks → IsCheckedOnce calls store jobs es ss (pairs_over 0 ks)
  checked_once store jobs es ss ks h = record {
    once = once_over 0 ks;
    within = λ job seq c.
        let w = within_at store 0 jobs es ss ks job seq h c in
        let at : w.0 ≡ job = (let e : job ≡ 0 + w.0 = w.2 in omega arith) in
        let found : slice_get jobs job ≡ Some w.1 = subst (λ (i : ℕ). slice_get jobs i ≡ Some w.1) at w.3 in
        subst (λ (n : ℕ). seq < n) (sym (count_some store jobs job w.1 found)) w.4;
    delivered = λ s d among c. told_at store 0 jobs es ss ks s d h among c;
    every = λ job seq walked lt. all_of store jobs es ss ks job seq (slice_get jobs job) h walked.0 refl lt;
    all = λ walked job seq lt. all_of store jobs es ss ks job seq (slice_get jobs job) h (λ e. walked.0 (has_got es job Memory e)) refl lt;
  }

-- the sinks after the next one are fresh if those from it on are
rest_fresh : {S : Type 0} (calls : S → Calls) (i : ℕ) (sinks : List S) (s : S) → i < length sinks → EachFresh calls (drop i sinks) → EachFresh calls (drop (i + 1) sinks)
rest_fresh {S = S} calls i sinks s lt h =
    let all : EachFresh calls (get_or sinks i s ∷ drop (i + 1) sinks) = subst (λ (l : List S). EachFresh calls l) (drop_more sinks i s lt) h in all.1

-- Of the jobs the first were exported into their sinks, the sinks after are fresh, and each still promises what it did.
pub record IsThrough {S About : Type 0} (calls : S → Calls) (guarantee : Fact S About) (store : Blocks) (jobs : List JobMeaning) (i : ℕ) (es : List End) (first sinks : List S) (pairs : List (ℕ × ℕ)) : Type 0 where
  pub counts : List ℕ
  pub counted : length counts ≡ i
  pub lengths : length sinks ≡ length jobs
  pub exported : EachExported calls store 0 (take i jobs) es (take i sinks) counts
  pub fresh : EachFresh calls (drop i sinks)
  pub kept : EachKept guarantee first sinks
  pub checked : pairs ≡ pairs_over 0 counts

module _ {S About : Type 0} (calls : S → Calls) (guarantee : Fact S About) (store : Blocks) (jobs : List JobMeaning) where
  -- before the first job
  pub through_none : (es : List End) (first : List S) (pairs : List (ℕ × ℕ)) → es ≡ [] → length first ≡ length jobs → EachFresh calls first → pairs ≡ [] → IsThrough calls guarantee store jobs 0 es first first pairs
  through_none es first pairs none lengths fresh unused = record {
    counts = [];
    counted = refl;
    lengths = lengths;
    exported = subst (λ (l : List End). EachExported calls store 0 [] l [] []) (sym none) tt;
    fresh = fresh;
    kept = kept_same guarantee first;
    checked = unused;
  }

  -- one job more
  pub through_more : (i : ℕ) (es more : List End) (first sinks : List S) (pairs after : List (ℕ × ℕ)) (j : JobMeaning) (e : End) (s new : S)
      → IsThrough calls guarantee store jobs i es first sinks pairs → i < length jobs → j ≡ get_or jobs i j → s ≡ get_or sinks i s → more ≡ es ++ e ∷ [] → Exports store i j e (calls new) pairs after
      → Keeps guarantee s new → IsThrough calls guarantee store jobs (i + 1) more first (set sinks i new) after
  through_more i es more first sinks pairs after j e s new t lt job sink ends x keeps =
      let counted : length t.counts ≡ i = t.counted in
      let lengths : length sinks ≡ length jobs = t.lengths in
      let within : i < length sinks = omega arith in
      let place : i ≡ 0 + length t.counts = omega arith in
      let below : i < i + 1 = omega arith in
      let jobs_are : take (i + 1) jobs ≡ take i jobs ++ j ∷ [] = take_more jobs i j lt ∙ ap (λ (y : JobMeaning). take i jobs ++ y ∷ []) (sym job) in
      let sinks_are : take (i + 1) (set sinks i new) ≡ take i sinks ++ new ∷ [] = take_more_set sinks i new within in
      record {
        counts = t.counts ++ x.0 ∷ [];
        counted = omega (arith, length-append t.counts (x.0 ∷ []));
        lengths = length-set sinks i new ∙ t.lengths;
        exported = subst (λ (l : List JobMeaning). EachExported calls store 0 l more (take (i + 1) (set sinks i new)) (t.counts ++ x.0 ∷ [])) (sym jobs_are)
            (subst (λ (l : List S). EachExported calls store 0 (take i jobs ++ j ∷ []) more l (t.counts ++ x.0 ∷ [])) (sym sinks_are)
            (subst (λ (l : List End). EachExported calls store 0 (take i jobs ++ j ∷ []) l (take i sinks ++ new ∷ []) (t.counts ++ x.0 ∷ [])) (sym ends)
            (exported_push calls store 0 i (take i jobs) es (take i sinks) t.counts j e new x.0 place t.exported x.1)));
        fresh = subst (λ (l : List S). EachFresh calls l) (sym (drop-set-lt (i + 1) sinks i new below)) (rest_fresh calls i sinks s within t.fresh);
        kept = kept_set guarantee first sinks i s new t.kept sink keeps;
        checked = x.2 ∙ ap (λ (l : List (ℕ × ℕ)). l ++ pairs_of i x.0) t.checked ∙ sym (over_push 0 t.counts x.0 i place);
      }

  -- all jobs
  pub through_all : (i : ℕ) (es : List End) (first sinks : List S) (pairs : List (ℕ × ℕ)) → length jobs ≤ i → IsThrough calls guarantee store jobs i es first sinks pairs → (ks : List ℕ) × EachExported calls store 0 jobs es sinks ks × (pairs ≡ pairs_over 0 ks)
  through_all i es first sinks pairs past t =
      let lengths : length sinks ≡ length jobs = t.lengths in
      let short : length sinks ≤ i = omega arith in
      (t.counts, subst (λ (l : List JobMeaning). EachExported calls store 0 l es sinks t.counts) (take_all i jobs past) (subst (λ (l : List S). EachExported calls store 0 (take i jobs) es l t.counts) (take_all i sinks short) t.exported), t.checked)

  -- when all jobs are exported, each sink was delivered to faithfully
  pub all_delivered : (i : ℕ) (es : List End) (first sinks : List S) (pairs : List (ℕ × ℕ)) → length jobs ≤ i → IsThrough calls guarantee store jobs i es first sinks pairs → EachDelivered calls store 0 jobs es sinks
  all_delivered i es first sinks pairs past t = let a = through_all i es first sinks pairs past t in delivers calls store 0 jobs es sinks a.0 a.1

  -- when all jobs are exported, none ended with Start
  pub all_started : (i : ℕ) (es : List End) (first sinks : List S) (pairs : List (ℕ × ℕ)) → length jobs ≤ i → IsThrough calls guarantee store jobs i es first sinks pairs → NoneIsStart es
  all_started i es first sinks pairs past t = let a = through_all i es first sinks pairs past t in none_is_start calls store 0 jobs es sinks a.0 a.1

  -- when all jobs are exported, each visit was checked once
  pub all_checked : (i : ℕ) (es : List End) (first sinks : List S) (pairs : List (ℕ × ℕ)) → length jobs ≤ i → IsThrough calls guarantee store jobs i es first sinks pairs → IsCheckedOnce calls store jobs es sinks pairs
  all_checked i es first sinks pairs past t =
      let a = through_all i es first sinks pairs past t in subst (λ (l : List (ℕ × ℕ)). IsCheckedOnce calls store jobs es sinks l) (sym a.2) (checked_once calls store jobs es sinks a.0 a.1)
