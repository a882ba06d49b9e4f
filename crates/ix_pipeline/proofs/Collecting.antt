-- All jobs, as one item comes.
use Rattle.std.proofs.Common.{◌≡◌, ℕ, zero, suc, ◌+◌, ◌<◌, ◌≤◌, Bool, true, false, List, [], ◌∷◌, ◌++◌, length, get_or, set, take, Some, None, refl, sym, ◌∙◌, ap, subst, arith}
use Rattle.ix_store.specs.Store.{Blocks}
use Rattle.ix_walk.specs.JobMeaning.{JobMeaning}
use Rattle.ix_car.specs.declared.sink.Delivery.{Delivery}
use Rattle.ix_car.specs.Events.{Calls}
use Rattle.ix_stages.specs.declared.verdicted.Verdicted.{Verdicted}
use Rattle.ix_stages.specs.declared.verdicted.Verdicted.TheVariants.{Checked, Unchecked, Close, Last}
use Rattle.ix_pipeline.specs.declared.job_progress.JobProgress.{JobProgress}
use Rattle.ix_pipeline.specs.declared.collector.Collector.{Collector}
use Rattle.ix_stages.specs.Received.{Tally, tally, Inserts, job_of}
use Rattle.ix_stages.specs.Good.{judged_at, over_at, IsAllowed, IsGood}
use Rattle.std.specs.Prelude.{not, ◌||◌}
use Rattle.ix_pipeline.specs.JobProgress.{IsFine, IsItem, IsSafe, IsCome, IsEnded, IsMisplaced}
use Rattle.std.proofs.lemmas.List.{take_more}
use Rattle.ix_pipeline.specs.Collected.{EachSafe, EachCome, IsCollected, AllEnded, IsClosedAt, IsMisplacedAt}
use Rattle.ix_car.proofs.Each.{each_push}
use Rattle.ix_pipeline.proofs.Goodness.{tally_same, fine_of, item_of, good_before}

-- the job of an item that may be sent is there
pub job_known : (store : Blocks) (jobs : List JobMeaning) (x : Verdicted) (j : ℕ) → IsAllowed store jobs x → job_of x ≡ Some j → j < length jobs
job_known store jobs (Checked v d) j a e = let same : v.job ≡ j = cc in subst (λ (i : ℕ). i < length jobs) same a.0
job_known store jobs (Unchecked i n) j a e = let same : i ≡ j = cc in subst (λ (k : ℕ). k < length jobs) same a.0
job_known store jobs (Close i n end) j a e = let same : i ≡ j = cc in subst (λ (k : ℕ). k < length jobs) same a.0
job_known store jobs Last j a e = cc

-- an item of an unknown job isn't good
pub collected_unknown : (store : Blocks) (jobs : List JobMeaning) (x : Verdicted) (got more : List Verdicted) (j size : ℕ) → Inserts x got more → job_of x ≡ Some j → size ≤ j → size ≡ length jobs → IsGood store jobs more → ⊥
collected_unknown store jobs x got more j size i of past len good = let lt : j < length jobs = job_known store jobs x j ((good_before store jobs x got more i good).1) of in absurd (omega arith)

-- one more sink was closed, in the loop of `is_done`
pub ended_more : (ps : List JobProgress) (i : ℕ) (p : JobProgress) → p ≡ get_or ps i p → i < length ps → AllEnded (take i ps) → IsEnded p → AllEnded (take (i + 1) ps)
ended_more ps i p at lt h e =
    subst AllEnded (sym (take_more ps i p lt ∙ ap (λ (x : JobProgress). take i ps ++ x ∷ []) (sym at))) (each_push IsEnded (take i ps) p h e)

-- if all sinks were closed, this one was
pub ended_at : (ps : List JobProgress) (i : ℕ) (p : JobProgress) → p ≡ get_or ps i p → i < length ps → AllEnded ps → IsEnded p
ended_at [] i p at lt h = absurd (omega arith)
ended_at (x ∷ ps) zero p at lt h = subst IsEnded (sym at) h.0
ended_at (x ∷ ps) (suc i) p at lt h = ended_at ps i p at (omega arith) h.1

-- a sink that was closed at a position is the one there
pub closed_at : (ps : List JobProgress) (i : ℕ) (p : JobProgress) → p ≡ get_or ps i p → IsClosedAt ps i → IsEnded p
closed_at [] i p at h = absurd h
closed_at (x ∷ ps) zero p at h = subst IsEnded (sym at) h
closed_at (x ∷ ps) (suc i) p at h = closed_at ps i p at h

-- the job at the position doesn't expect the item
pub misplaced_at : (ps : List JobProgress) (x : Verdicted) (i : ℕ) (p : JobProgress) → p ≡ get_or ps i p → IsMisplacedAt ps x i → IsMisplaced p x
misplaced_at [] x i p at h = absurd h
misplaced_at (q ∷ ps) x zero p at h = subst (λ (r : JobProgress). IsMisplaced r x) (sym at) h
misplaced_at (q ∷ ps) x (suc i) p at h = misplaced_at ps x i p at h

-- an unexpected item is noted
pub is_noted_then : (noted fine : Bool) → fine ≡ false → (noted || not fine) ≡ true
is_noted_then true fine e = refl
is_noted_then false true e = cc
is_noted_then false false e = refl

-- if one is noted that wasn't before, the item was unexpected
pub not_fine : (noted fine : Bool) → noted ≡ false → (noted || not fine) ≡ true → fine ≡ false
not_fine true fine e f = cc
not_fine false true e f = cc
not_fine false false e f = refl

-- replacing a job's progress keeps all sinks closed, if this one stays closed
pub ended_set : (ps : List JobProgress) (i : ℕ) (p q : JobProgress) → p ≡ get_or ps i p → i < length ps → (IsEnded p → IsEnded q) → AllEnded ps → AllEnded (set ps i q)
ended_set [] i p q at lt keeps h = tt
ended_set (x ∷ ps) zero p q at lt keeps h = (keeps (subst IsEnded (sym at) h.0), h.1)
ended_set (x ∷ ps) (suc i) p q at lt keeps h = (h.0, ended_set ps i p q at (omega arith) keeps h.1)

module _ {S : Type 0} (calls : S → Calls) where
  -- the sink at the position may be called
  pub safe_at : (ps : List JobProgress) (ss : List S) (i : ℕ) (p : JobProgress) (s : S) → p ≡ get_or ps i p → s ≡ get_or ss i s → i < length ps → EachSafe calls ps ss → IsSafe p (calls s).events (calls s).failed
  safe_at [] ss i p s pe se lt h = absurd (omega arith)
  safe_at (x ∷ ps) [] i p s pe se lt h = absurd h
  safe_at (x ∷ ps) (y ∷ ss) zero p s pe se lt h = subst (λ (z : S). IsSafe p (calls z).events (calls z).failed) (sym se) (subst (λ (z : JobProgress). IsSafe z (calls y).events (calls y).failed) (sym pe) h.0)
  safe_at (x ∷ ps) (y ∷ ss) (suc i) p s pe se lt h = safe_at ps ss i p s pe se (omega arith) h.1

  -- replacing one job and its sink keeps all others safe
  pub safe_set : (ps : List JobProgress) (ss : List S) (i : ℕ) (p : JobProgress) (s : S) → IsSafe p (calls s).events (calls s).failed → EachSafe calls ps ss → EachSafe calls (set ps i p) (set ss i s)
  safe_set [] [] i p s new h = tt
  safe_set [] (y ∷ ss) i p s new h = absurd h
  safe_set (x ∷ ps) [] i p s new h = absurd h
  safe_set (x ∷ ps) (y ∷ ss) zero p s new h = (new, h.1)
  safe_set (x ∷ ps) (y ∷ ss) (suc i) p s new h = (h.0, safe_set ps ss i p s new h.1)

  module _ (store : Blocks) (jobs : List JobMeaning) where
    -- nothing changes for the jobs that the item isn't of
    come_same : (x : Verdicted) (got more : List Verdicted) (n : ℕ) (ps : List JobProgress) (ss : List S)
        → Inserts x got more → ((j : ℕ) → n ≤ j → job_of x ≡ Some j → ⊥) → EachCome calls store jobs got n ps ss → EachCome calls store jobs more n ps ss
    come_same x got more n [] [] i ne h = tt
    come_same x got more n [] (s ∷ ss) i ne h = absurd h
    come_same x got more n (p ∷ ps) [] i ne h = absurd h
    come_same x got more n (p ∷ ps) (s ∷ ss) i ne h = (
      subst (λ (t : Tally). IsCome (judged_at store jobs n) (over_at store jobs n) t p (calls s).events (calls s).failed) (tally_same store jobs n x got more i (λ e. ne n (omega arith) e)) h.0,
      come_same x got more (n + 1) ps ss i (λ j le e. ne j (omega arith) e) h.1,
    )

    -- how far the job at the position has come
    pub come_at : (got : List Verdicted) (n j : ℕ) (ps : List JobProgress) (ss : List S) (i : ℕ) (p : JobProgress) (s : S)
        → j ≡ n + i → p ≡ get_or ps i p → s ≡ get_or ss i s → i < length ps → EachCome calls store jobs got n ps ss → IsCome (judged_at store jobs j) (over_at store jobs j) (tally j got) p (calls s).events (calls s).failed
    come_at got n j [] ss i p s je pe se lt h = absurd (omega arith)
    come_at got n j (x ∷ ps) [] i p s je pe se lt h = absurd h
    come_at got n j (x ∷ ps) (y ∷ ss) zero p s je pe se lt h =
        let same : n ≡ j = omega arith in
        subst (λ (k : ℕ). IsCome (judged_at store jobs k) (over_at store jobs k) (tally k got) p (calls s).events (calls s).failed) same
        (subst (λ (z : S). IsCome (judged_at store jobs n) (over_at store jobs n) (tally n got) p (calls z).events (calls z).failed) (sym se)
        (subst (λ (z : JobProgress). IsCome (judged_at store jobs n) (over_at store jobs n) (tally n got) z (calls y).events (calls y).failed) (sym pe) h.0))
    come_at got n j (x ∷ ps) (y ∷ ss) (suc i) p s je pe se lt h = come_at got (n + 1) j ps ss i p s (omega arith) pe se (omega arith) h.1

    -- one job comes one item further, and the others stay
    come_set : (x : Verdicted) (got more : List Verdicted) (n j : ℕ) (ps : List JobProgress) (ss : List S) (i : ℕ) (p : JobProgress) (s : S)
        → Inserts x got more → job_of x ≡ Some j → j ≡ n + i → IsCome (judged_at store jobs j) (over_at store jobs j) (tally j more) p (calls s).events (calls s).failed
        → EachCome calls store jobs got n ps ss → EachCome calls store jobs more n (set ps i p) (set ss i s)
    come_set x got more n j [] [] i p s ins of je new h = tt
    come_set x got more n j [] (y ∷ ss) i p s ins of je new h = absurd h
    come_set x got more n j (q ∷ ps) [] i p s ins of je new h = absurd h
    come_set x got more n j (q ∷ ps) (y ∷ ss) zero p s ins of je new h =
        let same : j ≡ n = omega arith in (
          subst (λ (k : ℕ). IsCome (judged_at store jobs k) (over_at store jobs k) (tally k more) p (calls s).events (calls s).failed) same new,
          come_same x got more (n + 1) ps ss ins (λ k le e. let both : Some j ≡ Some k = sym of ∙ e in let is : j ≡ k = cc in absurd (omega arith)) h.1,
        )
    come_set x got more n j (q ∷ ps) (y ∷ ss) (suc i) p s ins of je new h = (
      subst (λ (t : Tally). IsCome (judged_at store jobs n) (over_at store jobs n) t q (calls y).events (calls y).failed) (tally_same store jobs n x got more ins (λ e. let both : Some j ≡ Some n = sym of ∙ e in let is : j ≡ n = cc in absurd (omega arith))) h.0,
      come_set x got more (n + 1) j ps ss i p s ins of (omega arith) new h.1,
    )

    -- an item of no job
    pub collected_none : (x : Verdicted) (got more : List Verdicted) (c : Collector) (ss : List S) → Inserts x got more → job_of x ≡ None → IsCollected calls store jobs got c ss → IsCollected calls store jobs more c ss
    collected_none x got more c ss i none h = λ good len.
        let before = h ((good_before store jobs x got more i good).0) len in (before.0, come_same x got more 0 c.jobs.items ss i (λ j le e. let both : None ≡ Some j = sym none ∙ e in cc) before.1)

    -- an item of a job
    pub collected_one : (x : Verdicted) (got more : List Verdicted) (j : ℕ) (noted fine : Bool) (ps qs : List JobProgress) (ss ts : List S) (p q : JobProgress) (s t : S)
        → Inserts x got more → job_of x ≡ Some j → p ≡ get_or ps j p → s ≡ get_or ss j s → j < length ps → qs ≡ set ps j q → ts ≡ set ss j t
        → ((all : List Delivery) (over : Bool) (a b : Tally) → IsFine all b → IsItem all over x a b → IsCome all over a p (calls s).events (calls s).failed → (fine ≡ true) × IsCome all over b q (calls t).events (calls t).failed)
        → (IsGood store jobs got → length ps ≡ length jobs → (noted ≡ false) × EachCome calls store jobs got 0 ps ss) → IsGood store jobs more → length ps ≡ length jobs
        → ((noted || not fine) ≡ false) × EachCome calls store jobs more 0 qs ts
    collected_one x got more j noted fine ps qs ss ts p q s t ins of pe se lt qe te step h good len =
        let parts = good_before store jobs x got more ins good in
        let before = h parts.0 len in
        let was = come_at got 0 j ps ss j p s (omega arith) pe se lt before.1 in
        let now = step (judged_at store jobs j) (over_at store jobs j) (tally j got) (tally j more) (fine_of store jobs j more good) (item_of store jobs j x got more ins parts.1 of) was in (
          none_noted noted fine before.0 now.0,
          subst (λ (l : List JobProgress). EachCome calls store jobs more 0 l ts) (sym qe)
              (subst (λ (l : List S). EachCome calls store jobs more 0 (set ps j q) l) (sym te) (come_set x got more 0 j ps ss j q t ins of (omega arith) now.1 before.1)),
        )
      where
        none_noted : (a b : Bool) → a ≡ false → b ≡ true → (a || not b) ≡ false
        none_noted true b e f = cc
        none_noted false true e f = refl
        none_noted false false e f = cc
