-- The course of jobs.
use Rattle.std.proofs.Common.{◌≡◌, ℕ, zero, suc, ◌+◌, ◌≤◌, ◌<◌, Bool, List, [], ◌∷◌, length, take, Option, Some, None, All, refl, sym, ◌∙◌, ap, subst, arith}
use Rattle.std.specs.Prelude.{slice_get}
use Rattle.std.proofs.lemmas.List.{length-map, length-take}
use Rattle.std.proofs.lemmas.List.Elements.{All-nil, All-cons, All-head, All-tail, All-weaker}
use Rattle.std.proofs.lemmas.Option.{slice_get_within}
use Rattle.ix_walk.specs.declared.visit.Visit.{Visit}
use Rattle.ix_store.specs.Store.{Blocks}
use Rattle.ix_walk.specs.JobMeaning.{JobMeaning}
use Rattle.ix_walk.specs.Arrivals.{Arrival}
use Rattle.ix_walk.specs.Visits.{arrivals_of, is_over_limit, visit_of, visits_from, visits_of}
use Rattle.ix_check.specs.Visits.{IsVisitOf}
use Rattle.ix_car.specs.declared.sink.End.{End}
use Rattle.ix_car.specs.declared.sink.End.TheVariants.{Done, Limit, Memory, Write, Start}
use Rattle.ix_car.specs.Verified.{judged}
use Rattle.ix_stages.specs.declared.item.Item.{Item}
use Rattle.ix_stages.specs.declared.item.Item.TheVariants as item
use Rattle.ix_stages.specs.Good.{judged_at, over_at, IsCloseOf}
use Rattle.ix_stages.specs.Sent.{visits_at, IsOfCourse, IsGoodTaken}
use Rattle.ix_stages.specs.Course.{IsCourse, IsCourseOf, course_visits, course_over, Allowed, IsWellTaken, course_from, course_of}
use Rattle.ix_stages.proofs.SeatMoves.{IsCourse-at}

-- ---- each visit is one of the store

-- each visit is made of what the store has for its CID
from_store : (store : Blocks) (number seq : ℕ) (found : List Arrival) → All (IsVisitOf store) (visits_from store number seq found)
from_store store number seq [] = All-nil (IsVisitOf store)
from_store store number seq (a ∷ found) =
    All-cons (IsVisitOf store) (visit_of store number seq a) (visits_from store number (seq + 1) found) (record { block = refl; malformed = refl }) (from_store store number (seq + 1) found)

-- job by job, from any number on
course_from_store : (store : Blocks) (n : ℕ) (jobs : List JobMeaning) → IsCourseOf store (course_from store n jobs)
course_from_store store n [] = All-nil (λ p. All (IsVisitOf store) p.visits)
course_from_store store n (job ∷ jobs) =
    All-cons (λ p. All (IsVisitOf store) p.visits) (record { visits = visits_of store n job; is_truncated = is_over_limit store job }) (course_from store (n + 1) jobs) (from_store store n 0 (take job.limit (arrivals_of store job)))
    (course_from_store store (n + 1) jobs)

-- the law for `IsOfStore`
pub of_store : (store : Blocks) (jobs : List JobMeaning) → IsCourseOf store (course_of store jobs)
of_store store jobs = course_from_store store 0 jobs

-- ---- no job has more visits than its limit

-- there is one visit for each arrival
from_length : (store : Blocks) (number seq : ℕ) (found : List Arrival) → length (visits_from store number seq found) ≡ length found
from_length store number seq [] = refl
from_length store number seq (a ∷ found) = let rest : length (visits_from store number (seq + 1) found) ≡ length found = from_length store number (seq + 1) found in omega arith

-- a job has at most as many visits as its limit
visits_small : (store : Blocks) (number : ℕ) (job : JobMeaning) → length (visits_of store number job) ≤ job.limit
visits_small store number job =
    let size : length (visits_of store number job) ≡ length (take job.limit (arrivals_of store job)) = from_length store number 0 (take job.limit (arrivals_of store job)) in omega (arith, length-take job.limit (arrivals_of store job))

-- so jobs with limits below 2^32 have a small course
course_small : (store : Blocks) (n : ℕ) (jobs : List JobMeaning) → All (λ job. job.limit ≤ 4294967295) jobs → IsCourse (course_from store n jobs)
course_small store n [] h = All-nil (λ p. length p.visits ≤ 4294967295)
course_small store n (job ∷ jobs) h =
    let most : job.limit ≤ 4294967295 = All-head (λ job. job.limit ≤ 4294967295) job jobs h in
    let few : length (visits_of store n job) ≤ job.limit = visits_small store n job in
    All-cons (λ p. length p.visits ≤ 4294967295) (record { visits = visits_of store n job; is_truncated = is_over_limit store job }) (course_from store (n + 1) jobs) (omega (arith, most, few))
    (course_small store (n + 1) jobs (All-tail (λ job. job.limit ≤ 4294967295) job jobs h))

-- the law for `IsSmall`
pub small : (store : Blocks) (jobs : List JobMeaning) → All (λ job. job.limit ≤ 4294967295) jobs → IsCourse (course_of store jobs)
small store jobs h = course_small store 0 jobs h

-- ---- job by job

-- there is one entry for each job, whatever number the first has
sized_from : (store : Blocks) (n : ℕ) (jobs : List JobMeaning) → length (course_from store n jobs) ≡ length jobs
sized_from store n [] = refl
sized_from store n (job ∷ jobs) = let rest : length (course_from store (n + 1) jobs) ≡ length jobs = sized_from store (n + 1) jobs in omega arith

-- the law for `IsSized`
pub sized : (store : Blocks) (jobs : List JobMeaning) → length (course_of store jobs) ≡ length jobs
sized store jobs = sized_from store 0 jobs

-- the entry at position n has the visits of the job numbered m + n
visits_from_there : (store : Blocks) (m : ℕ) (jobs : List JobMeaning) (n k : ℕ) (job : JobMeaning) → k ≡ m + n → slice_get jobs n ≡ Some job → course_visits (course_from store m jobs) n ≡ visits_of store k job
visits_from_there store m [] n k job at e = cc
visits_from_there store m (x ∷ jobs) zero k job at e =
    let same : x ≡ job = cc in let here : m ≡ k = omega (arith, at) in (λ i. visits_of store (here i) (same i))
visits_from_there store m (x ∷ jobs) (suc n) k job at e = visits_from_there store (m + 1) jobs n k job (omega (arith, at)) e

-- the law for `HasVisits`
pub visits_there : (store : Blocks) (jobs : List JobMeaning) (n : ℕ) (job : JobMeaning) → slice_get jobs n ≡ Some job → course_visits (course_of store jobs) n ≡ visits_of store n job
visits_there store jobs n job e = visits_from_there store 0 jobs n n job (omega arith) e

-- the same for whether the job's limit is exceeded
over_from_there : (store : Blocks) (m : ℕ) (jobs : List JobMeaning) (n : ℕ) (job : JobMeaning) → slice_get jobs n ≡ Some job → course_over (course_from store m jobs) n ≡ is_over_limit store job
over_from_there store m [] n job e = cc
over_from_there store m (x ∷ jobs) zero job e = let same : x ≡ job = cc in ap (is_over_limit store) same
over_from_there store m (x ∷ jobs) (suc n) job e = over_from_there store (m + 1) jobs n job e

-- the law for `HasOver`
pub over_there : (store : Blocks) (jobs : List JobMeaning) (n : ℕ) (job : JobMeaning) → slice_get jobs n ≡ Some job → course_over (course_of store jobs) n ≡ is_over_limit store job
over_there store jobs n job e = over_from_there store 0 jobs n job e

-- past the jobs there are no visits
none_from : (store : Blocks) (m : ℕ) (jobs : List JobMeaning) (n : ℕ) → slice_get jobs n ≡ None → course_visits (course_from store m jobs) n ≡ []
none_from store m [] n e = refl
none_from store m (x ∷ jobs) zero e = cc
none_from store m (x ∷ jobs) (suc n) e = none_from store (m + 1) jobs n e

-- past the jobs it says what the empty course says
over_none : (store : Blocks) (m : ℕ) (jobs : List JobMeaning) (n : ℕ) → slice_get jobs n ≡ None → course_over (course_from store m jobs) n ≡ course_over [] n
over_none store m [] n e = refl
over_none store m (x ∷ jobs) zero e = cc
over_none store m (x ∷ jobs) (suc n) e = over_none store (m + 1) jobs n e

-- the empty list has no element
none_at : (k : ℕ) (v : Visit) → slice_get [] k ≡ Some v → ⊥
none_at k v e = cc

-- the visits of a walk are numbered
numbered_from : (store : Blocks) (number seq : ℕ) (found : List Arrival) (k : ℕ) (v : Visit) → slice_get (visits_from store number seq found) k ≡ Some v → (v.job ≡ number) × (v.seq ≡ seq + k)
numbered_from store number seq [] k v e = cc
numbered_from store number seq (a ∷ found) zero v e =
    let same : visit_of store number seq a ≡ v = cc in
    let here : v.seq ≡ seq = ap (λ (w : Visit). w.seq) (sym same) in
    (ap (λ (w : Visit). w.job) (sym same), omega (arith, here))
numbered_from store number seq (a ∷ found) (suc k) v e =
    let rest = numbered_from store number (seq + 1) found k v e in
    let there : v.seq ≡ seq + 1 + k = rest.1 in
    (rest.0, omega (arith, there))

-- ---- what is well taken by this course is good

-- a close fits any list of the same length, so the visits may be replaced by their verdicts
close_of : {X Y : Type 0} (end : End) (n : ℕ) (xs : List X) (ys : List Y) (a b : Bool) → length xs ≡ length ys → a ≡ b → IsCloseOf end n xs a → IsCloseOf end n ys b
close_of Done n xs ys a b len is h = (h.0 ∙ len, sym is ∙ h.1)
close_of Limit n xs ys a b len is h = (h.0 ∙ len, sym is ∙ h.1)
close_of Memory n xs ys a b len is h = omega (arith, h, len)
close_of Write n xs ys a b len is h = h
close_of Start n xs ys a b len is h = h

module _ (store : Blocks) (jobs : List JobMeaning) where
  -- by what is at position n of the jobs
  visits_by : (n : ℕ) (o : Option JobMeaning) → slice_get jobs n ≡ o → course_visits (course_of store jobs) n ≡ visits_at store jobs n
  visits_by n None e = rw e (none_from store 0 jobs n e)
  visits_by n (Some job) e = rw e (visits_there store jobs n job e)

  -- course and jobs agree on the visits of each number, also past the jobs
  visits_same : (n : ℕ) → course_visits (course_of store jobs) n ≡ visits_at store jobs n
  visits_same n = visits_by n (slice_get jobs n) refl

  -- by what is at position n of the jobs
  over_by : (n : ℕ) (o : Option JobMeaning) → slice_get jobs n ≡ o → course_over (course_of store jobs) n ≡ over_at store jobs n
  over_by n None e = rw e (over_none store 0 jobs n e)
  over_by n (Some job) e = rw e (over_there store jobs n job e)

  -- course and jobs agree on whether the limit is exceeded
  over_same : (n : ℕ) → course_over (course_of store jobs) n ≡ over_at store jobs n
  over_same n = over_by n (slice_get jobs n) refl

  -- by what is at position n of the jobs
  length_by : (n : ℕ) (o : Option JobMeaning) → slice_get jobs n ≡ o → length (visits_at store jobs n) ≡ length (judged_at store jobs n)
  length_by n None e = rw e refl
  length_by n (Some job) e = rw e (sym (length-map (visits_of store n job) (judged store)))

  -- a job has as many verdicts as visits
  length_same : (n : ℕ) → length (course_visits (course_of store jobs) n) ≡ length (judged_at store jobs n)
  length_same n = ap length (visits_same n) ∙ length_by n (slice_get jobs n) refl

  -- a visit that is allowed is of one of the jobs, since past them there are none
  job_within : (n : ℕ) (v : Visit) (k : ℕ) (o : Option JobMeaning) → slice_get jobs n ≡ o → slice_get (course_visits (course_of store jobs) n) k ≡ Some v → n < length jobs
  job_within n v k None e is = absurd (none_at k v (sym (ap (λ (l : List Visit). slice_get l k) (none_from store 0 jobs n e)) ∙ is))
  job_within n v k (Some job) e is = slice_get_within jobs n job e

  -- an item that the course allows is one that may be taken
  one_good : (x : Item) → Allowed (course_of store jobs) x → IsOfCourse store jobs x
  one_good (item.Visit v) a =
      (job_within v.job v v.seq (slice_get jobs v.job) refl a, sym (ap (λ (l : List Visit). slice_get l v.seq) (visits_same v.job)) ∙ a)
  one_good (item.Close j n end) a =
      let within : j < length (course_of store jobs) = a.0 in
      (omega (arith, within, sized store jobs), close_of end n (course_visits (course_of store jobs) j) (judged_at store jobs j) (course_over (course_of store jobs) j) (over_at store jobs j) (length_same j) (over_same j) a.1)
  one_good item.Stop a = tt

  -- the law for `GivesGood`, item by item
  pub good : (items : List Item) → All (λ job. job.limit ≤ 4294967295) jobs → IsWellTaken (course_of store jobs) items → IsGoodTaken store jobs items
  good items limits h = record {
    allowed = All-weaker (Allowed (course_of store jobs)) (IsOfCourse store jobs) one_good items h.allowed;
    once = h.once;
    last = h.last;
    small = λ j. subst (λ (n : ℕ). n ≤ 4294967295) (length_same j) (IsCourse-at (course_of store jobs) j (small store jobs limits));
  }

-- ---- what a walk puts is allowed

-- the law for `AllowsVisits`: visits are numbered in their order
pub visit_allowed : (store : Blocks) (jobs : List JobMeaning) (n k : ℕ) (job : JobMeaning) (v : Visit) → slice_get jobs n ≡ Some job → slice_get (visits_of store n job) k ≡ Some v → (v.job ≡ n) × (v.seq ≡ k) × Allowed (course_of store jobs) (item.Visit v)
visit_allowed store jobs n k job v at is =
    let named = numbered_from store n 0 (take job.limit (arrivals_of store job)) k v is in
    let seq : v.seq ≡ k = (let there = named.1 in omega (arith, there)) in
    let there : slice_get (course_visits (course_of store jobs) n) k ≡ Some v = ap (λ (l : List Visit). slice_get l k) (visits_there store jobs n job at) ∙ is in
    (named.0, seq, subst (λ (y : ℕ × ℕ). slice_get (course_visits (course_of store jobs) y.0) y.1 ≡ Some v) (λ i. (sym named.0 i, sym seq i)) there)

-- the law for `AllowsCloses`
pub close_allowed : (store : Blocks) (jobs : List JobMeaning) (n k : ℕ) (job : JobMeaning) (end : End) → slice_get jobs n ≡ Some job → IsCloseOf end k (visits_of store n job) (is_over_limit store job) → Allowed (course_of store jobs) (item.Close n k end)
close_allowed store jobs n k job end at h =
    let within : n < length jobs = slice_get_within jobs n job at in
    let same = sized store jobs in
    (omega (arith, within, same), close_of end k (visits_of store n job) (course_visits (course_of store jobs) n) (is_over_limit store job) (course_over (course_of store jobs) n) (ap length (sym (visits_there store jobs n job at))) (sym (over_there store jobs n job at)) h)
