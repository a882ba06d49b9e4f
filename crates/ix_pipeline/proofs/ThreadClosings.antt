-- Sinks that were closed with one end, and received nothing else.
use Rattle.std.proofs.Common.{◌≡◌, ◌⊎◌, ℕ, zero, suc, ◌+◌, ◌<◌, ◌≤◌, List, [], ◌∷◌, ◌++◌, length, get_or, set, take, drop, slice_get, Some, None, All, Contains, refl, sym, ◌∙◌, ap, subst, inl, inr, arith, take_all, drop-set-lt}
use Rattle.std.proofs.lemmas.Bool.{cases_lt}
use Rattle.std.proofs.lemmas.List.{take_more_set, drop_more}
use Rattle.std.proofs.lemmas.Option.{slice_get_past}
use Rattle.std.proofs.lemmas.List.Elements.{All-cons}
use Rattle.ix_store.specs.Store.{Blocks}
use Rattle.ix_walk.specs.JobMeaning.{JobMeaning}
use Rattle.ix_walk.specs.Visits.{is_over_limit}
use Rattle.ix_car.specs.declared.sink.Delivery.{Delivery}
use Rattle.ix_car.specs.declared.sink.End.{End}
use Rattle.ix_car.specs.declared.sink.End.TheVariants.{Memory, Start}
use Rattle.ix_car.specs.Events.{Event, Calls, delivery, close}
use Rattle.ix_car.specs.Verified.{judged_visits}
use Rattle.ix_car.specs.Faithful.{IsFaithful, EndFits}
use Rattle.ix_car.specs.Headline.{EachDelivered, EachFresh, Fact, Keeps, EachKept, IsCheckedOnce, IsEachOnce, AllWalked, IsWalkedAt, visit_count}
use Rattle.ix_pipeline.proofs.Members.{cases_cons, none_in}
use Rattle.ix_pipeline.proofs.Kept.{kept_same}
use Rattle.ix_pipeline.specs.declared.flowing.Outcome.{Outcome}
use Rattle.ix_stages.specs.declared.shared.Task.{Task}
use Rattle.ix_pipeline.specs.Closed.{EachClosed}
use Rattle.ix_pipeline.specs.Flowing.{AreVisitsOnce, IsFlown}

-- replacing the i-th sink by one that keeps the i-th's promise keeps all promises
pub kept_set : {S About : Type 0} (guarantee : Fact S About) (ss ts : List S) (i : ℕ) (x y : S) → EachKept guarantee ss ts → x ≡ get_or ts i x → Keeps guarantee x y → EachKept guarantee ss (set ts i y)
kept_set guarantee [] [] i x y h at keeps = tt
kept_set {S = S} guarantee (s ∷ ss) (t ∷ ts) zero x y h at keeps = ((λ about store job first p. keeps about store job first (subst (λ (z : S). guarantee z about store job first) (sym at) (h.0 about store job first p))), h.1)
kept_set guarantee (s ∷ ss) (t ∷ ts) (suc i) x y h at keeps = (h.0, kept_set guarantee ss ts i x y h.1 at keeps)
kept_set guarantee ss ts i x y h at keeps = absurd h

-- lists of sinks that keep each other's promises have the same length
pub kept_length : {S About : Type 0} (guarantee : Fact S About) (ss ts : List S) → EachKept guarantee ss ts → length ss ≡ length ts
kept_length guarantee [] [] h = refl
kept_length guarantee (s ∷ ss) (t ∷ ts) h = ap suc (kept_length guarantee ss ts h.1)
kept_length guarantee [] (t ∷ ts) h = absurd h
kept_length guarantee (s ∷ ss) [] h = absurd h

-- a visit is one of a job that is there
visit_job : (store : Blocks) (jobs : List JobMeaning) (job seq : ℕ) → seq < visit_count store jobs job → job < length jobs
visit_job store jobs job seq lt =
    elim (cases_lt job (length jobs)) [
      | inl less ↦ less
      | inr past ↦ (let none : slice_get jobs job ≡ None = slice_get_past jobs job past in let zero_then : visit_count store jobs job ≡ 0 = rw none refl in absurd (omega arith))
    ]

-- The first sinks were closed with this end, the others are fresh, and each still promises what it did.
pub record IsClosedTo {S About : Type 0} (calls : S → Calls) (guarantee : Fact S About) (end : End) (i : ℕ) (es : List End) (first sinks : List S) : Type 0 where
  pub closed : EachClosed calls end es (take i sinks)
  pub fresh : EachFresh calls (drop i sinks)
  pub kept : EachKept guarantee first sinks

module _ {S : Type 0} (calls : S → Calls) (end : End) where
  -- one sink more
  closed_push : (es : List End) (ss : List S) (s : S) → EachClosed calls end es ss → (calls s).events ≡ close end ∷ [] → (calls s).failed ≡ [] → EachClosed calls end (es ++ end ∷ []) (ss ++ s ∷ [])
  closed_push [] [] s h told refused = ((refl, told, refused), tt)
  closed_push (e ∷ es) (t ∷ ss) s h told refused = (h.0, closed_push es ss s h.1 told refused)
  closed_push es ss s h told refused = absurd h

  -- before the first sink
  pub closed_none : {About : Type 0} (guarantee : Fact S About) (es : List End) (first : List S) → es ≡ [] → EachFresh calls first → IsClosedTo calls guarantee end 0 es first first
  closed_none guarantee es first none fresh = record {
    closed = subst (λ (l : List End). EachClosed calls end l []) (sym none) tt;
    fresh = fresh;
    kept = kept_same guarantee first;
  }

  -- the next sink is fresh, and so are those after it
  split_fresh : {About : Type 0} (guarantee : Fact S About) (i : ℕ) (es : List End) (first sinks : List S) (s : S) → IsClosedTo calls guarantee end i es first sinks → i < length sinks → EachFresh calls (get_or sinks i s ∷ drop (i + 1) sinks)
  split_fresh guarantee i es first sinks s t lt = subst (λ (l : List S). EachFresh calls l) (drop_more sinks i s lt) t.fresh

  -- the next sink to close is still fresh
  pub next_fresh : {About : Type 0} (guarantee : Fact S About) (i : ℕ) (es : List End) (first sinks : List S) (s : S) → IsClosedTo calls guarantee end i es first sinks → i < length sinks → s ≡ get_or sinks i s → ((calls s).events ≡ []) × ((calls s).failed ≡ [])
  next_fresh guarantee i es first sinks s t lt at =
      let all = split_fresh guarantee i es first sinks s t lt in subst (λ (x : S). ((calls x).events ≡ []) × ((calls x).failed ≡ [])) (sym at) all.0

  -- one sink further
  pub closed_more : {About : Type 0} (guarantee : Fact S About) (i : ℕ) (es more : List End) (first sinks : List S) (s new : S)
      → IsClosedTo calls guarantee end i es first sinks → i < length sinks → s ≡ get_or sinks i s → more ≡ es ++ end ∷ [] → (calls new).events ≡ (calls s).events ++ close end ∷ [] → (calls new).failed ≡ (calls s).failed
      → Keeps guarantee s new → IsClosedTo calls guarantee end (i + 1) more first (set sinks i new)
  closed_more guarantee i es more first sinks s new t lt at ends told same keeps =
      let was = next_fresh guarantee i es first sinks s t lt at in
      let all = split_fresh guarantee i es first sinks s t lt in
      let below : i < i + 1 = omega arith in
      record {
        closed = subst (λ (l : List S). EachClosed calls end more l) (sym (take_more_set sinks i new lt))
            (subst (λ (l : List End). EachClosed calls end l (take i sinks ++ new ∷ [])) (sym ends)
            (closed_push es (take i sinks) new t.closed (told ∙ ap (λ (l : List Event). l ++ close end ∷ []) was.0) (same ∙ was.1)));
        fresh = subst (λ (l : List S). EachFresh calls l) (sym (drop-set-lt (i + 1) sinks i new below)) all.1;
        kept = kept_set guarantee first sinks i s new t.kept at keeps;
      }

  -- all sinks
  pub all_closed : {About : Type 0} (guarantee : Fact S About) (i : ℕ) (es : List End) (first sinks : List S) → length sinks ≤ i → IsClosedTo calls guarantee end i es first sinks → EachClosed calls end es sinks
  all_closed guarantee i es first sinks past t = subst (λ (l : List S). EachClosed calls end es l) (take_all i sinks past) t.closed

  -- a job of which nothing is delivered for lack of memory or of threads is delivered faithfully
  faithful_closed : (store : Blocks) (number : ℕ) (job : JobMeaning) (e : End) (got : Calls)
      → (end ≡ Start) ⊎ (end ≡ Memory) → e ≡ end → got.events ≡ close end ∷ [] → got.failed ≡ [] → IsFaithful store number job e got
  faithful_closed store number job e got which is events none = record {
    count = 0;
    within = omega arith;
    told = events ∙ ap (λ (x : End). close x ∷ []) (sym is);
    fits = elim which [
      | inl start ↦ subst (λ (x : End). EndFits x 0 (judged_visits store number job) (is_over_limit store job) got.failed) (sym (is ∙ start)) (refl, none)
      | inr memory ↦ subst (λ (x : End). EndFits x 0 (judged_visits store number job) (is_over_limit store job) got.failed) (sym (is ∙ memory)) (inl none)
    ];
  }

  -- by induction over the jobs: sinks that were closed alone are delivered to faithfully
  delivered_from : (store : Blocks) (n : ℕ) (jobs : List JobMeaning) (es : List End) (ss : List S) → EachClosed calls end es ss → length jobs ≡ length ss → (end ≡ Start) ⊎ (end ≡ Memory) → EachDelivered calls store n jobs es ss
  delivered_from store n [] [] [] h same which = tt
  delivered_from store n (j ∷ js) (e ∷ es) (s ∷ ss) h same which =
      let here = h.0 in (faithful_closed store n j e (calls s) which here.0 here.1 here.2, delivered_from store (n + 1) js es ss h.1 (omega arith) which)
  delivered_from store n [] [] (s ∷ ss) h same which = absurd h
  delivered_from store n [] (e ∷ es) [] h same which = absurd h
  delivered_from store n [] (e ∷ es) (s ∷ ss) h same which = absurd (omega arith)
  delivered_from store n (j ∷ js) [] [] h same which = absurd (omega arith)
  delivered_from store n (j ∷ js) (e ∷ es) [] h same which = absurd h
  delivered_from store n (j ∷ js) [] (s ∷ ss) h same which = absurd h

  -- sinks that were closed alone are delivered to faithfully, where their jobs ended for lack of memory or of threads
  pub delivered_of_closed : (store : Blocks) (jobs : List JobMeaning) (es : List End) (ss : List S) → EachClosed calls end es ss → length jobs ≡ length ss → (end ≡ Start) ⊎ (end ≡ Memory) → EachDelivered calls store 0 jobs es ss
  delivered_of_closed store jobs es ss h same which = delivered_from store 0 jobs es ss h same which

  -- no delivery is among their events
  pub none_delivered : (es : List End) (ss : List S) (s : S) (d : Delivery) → EachClosed calls end es ss → Contains ss s → Contains (calls s).events (delivery d) → ⊥
  none_delivered [] [] s d h among told = none_in s among
  none_delivered (e ∷ es) (t ∷ ss) s d h among told =
      elim (cases_cons t ss s among) [
        | inl same ↦
            (let here = h.0 in
            let there : Contains (close end ∷ []) (delivery d) = subst (λ (l : List Event). Contains l (delivery d)) (ap (λ (x : S). (calls x).events) (sym same) ∙ here.1) told in
            elim (cases_cons (close end) [] (delivery d) there) [ inl e ↦ cc | inr r ↦ none_in (delivery d) r ])
        | inr rest ↦ none_delivered es ss s d h.1 rest told
      ]
  none_delivered es ss s d h among told = absurd h

  -- none of their jobs was walked
  pub none_walked : (es : List End) (s : S) (ss : List S) → EachClosed calls end es (s ∷ ss) → (end ≡ Start) ⊎ (end ≡ Memory) → AllWalked es → ⊥
  none_walked [] s ss h which walked = absurd h
  none_walked (e ∷ es) s ss h which walked =
      let here = h.0 in elim which [ inl start ↦ walked.1 (0, omega arith, here.0 ∙ start) | inr memory ↦ walked.0 (0, omega arith, here.0 ∙ memory) ]

  all_of_none : (store : Blocks) (jobs : List JobMeaning) (es : List End) (ss : List S) (job seq : ℕ) → EachClosed calls end es ss → length jobs ≡ length ss → (end ≡ Start) ⊎ (end ≡ Memory) → AllWalked es → seq < visit_count store jobs job → ⊥
  all_of_none store [] es ss job seq h same which walked lt =
      let none : visit_count store [] job ≡ 0 = refl in omega arith
  all_of_none store (j ∷ js) es [] job seq h same which walked lt = omega arith
  all_of_none store (j ∷ js) es (s ∷ ss) job seq h same which walked lt = none_walked es s ss h which walked

  -- each of the closed sinks has this end
  closed_get : (es : List End) (ss : List S) (i : ℕ) → EachClosed calls end es ss → i < length ss → slice_get es i ≡ Some end
  closed_get [] [] i h lt = absurd (omega arith)
  closed_get (e ∷ es) (s ∷ ss) zero h lt = let here = h.0 in ap (λ (x : End). Some x) here.0
  closed_get (e ∷ es) (s ∷ ss) (suc i) h lt = closed_get es ss i h.1 (omega arith)
  closed_get es ss i h lt = absurd h

  every_of_none : (store : Blocks) (jobs : List JobMeaning) (es : List End) (ss : List S) (job seq : ℕ) → EachClosed calls end es ss → length jobs ≡ length ss → (end ≡ Start) ⊎ (end ≡ Memory) → IsWalkedAt es job → seq < visit_count store jobs job → ⊥
  every_of_none store jobs es ss job seq h same which walked lt =
      let below : job < length jobs = visit_job store jobs job seq lt in
      let at : slice_get es job ≡ Some end = closed_get es ss job h (omega arith) in
      elim which [ inl start ↦ walked.1 (at ∙ ap (λ (x : End). Some x) start) | inr memory ↦ walked.0 (at ∙ ap (λ (x : End). Some x) memory) ]

  -- every job ended so
  pub all_ended : (es : List End) (ss : List S) → EachClosed calls end es ss → All (λ e. e ≡ end) es
  all_ended [] [] h = λ k d lt. absurd (omega (arith, lt))
  all_ended (e ∷ es) (s ∷ ss) h = let here = h.0 in All-cons (λ (x : End). x ≡ end) e es here.0 (all_ended es ss h.1)
  all_ended es ss h = absurd h

  -- whatever pairs were checked, each that of a visit and once, are enough for them
  pub closed_checked : (store : Blocks) (jobs : List JobMeaning) (es : List End) (ss : List S) (pairs : List (ℕ × ℕ))
      → EachClosed calls end es ss → length jobs ≡ length ss → (end ≡ Start) ⊎ (end ≡ Memory) → IsEachOnce pairs → ((job seq : ℕ) → Contains pairs (job, seq) → seq < visit_count store jobs job) → IsCheckedOnce calls store jobs es ss pairs
  closed_checked store jobs es ss pairs h same which once within = record {
    once = once;
    within = within;
    delivered = λ s d among told. absurd (none_delivered es ss s d h among told);
    every = λ job seq walked lt. absurd (every_of_none store jobs es ss job seq h same which walked lt);
    all = λ walked job seq lt. absurd (all_of_none store jobs es ss job seq h same which walked lt);
  }

-- where every sink was closed with Start and received nothing else, the flow has left what it is to leave
pub flown_of_closed : {S C G About : Type 0} (calls : S → Calls) (guarantee : Fact S About) (checked : C → List (ℕ × ℕ)) (task : Task G) (first sinks : List S) (receiver : Outcome C)
    → length first ≡ length task.walks.now.jobs → EachClosed calls Start receiver.ends.items sinks → EachKept guarantee first sinks → AreVisitsOnce checked task receiver.checks.items
    → IsFlown calls guarantee checked task first sinks receiver
flown_of_closed calls guarantee checked task first sinks receiver sized closed kept checks =
    let same : length task.walks.now.jobs ≡ length sinks = sym sized ∙ kept_length guarantee first sinks kept in
    record {
      delivered = delivered_of_closed calls Start task.walks.now.store task.walks.now.jobs receiver.ends.items sinks closed same (inl refl);
      kept = kept;
      checks = closed_checked calls Start task.walks.now.store task.walks.now.jobs receiver.ends.items sinks _ closed same (inl refl) checks.once checks.within;
      started = inr (all_ended calls Start receiver.ends.items sinks closed);
    }
