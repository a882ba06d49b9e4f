-- What verifiers send for what they took.
use Rattle.std.specs.Prelude.{◌≡◌, ◌≤◌, ◌<◌, ℕ, ◌==◌, cond, List, [], ◌∷◌, length, Option, Some, None, slice_get, All}
use Rattle.ix_walk.specs.declared.visit.Visit.{Visit}
use Rattle.ix_store.specs.Store.{Blocks}
use Rattle.ix_walk.specs.JobMeaning.{JobMeaning}
use Rattle.ix_walk.specs.Visits.{visits_of}
use Rattle.ix_check.specs.Verdict.{verdict_of}
use Rattle.ix_stages.specs.declared.item.Item.{Item}
use Rattle.ix_stages.specs.declared.item.Item.TheVariants as taken
use Rattle.ix_stages.specs.declared.verdicted.Verdicted.{Verdicted}
use Rattle.ix_stages.specs.declared.verdicted.Verdicted.TheVariants.{Checked, Unchecked, Close, Last}
use Rattle.ix_stages.specs.Items.{is_of, seq_of}
use Rattle.ix_stages.specs.Received.{point}
use Rattle.ix_stages.specs.Good.{judged_at, over_at, IsCloseOf}
use Rattle.ix_stages.specs.Totals.{total}

-- the visits of the job with this number, or none if there is no such job
abbrev pub visits_at : Blocks → List JobMeaning → ℕ → List Visit
visits_at store jobs n = of (slice_get jobs n) where
  of : Option JobMeaning → List Visit
  of None = []
  of (Some job) = visits_of store n job

-- y is what is sent for x
abbrev pub Answers : Blocks → Item → Verdicted → Type 0
Answers store (taken.Visit v) (Checked w d) = (w ≡ v) × (d ≡ verdict_of store v.cid)
Answers store (taken.Visit v) (Unchecked j n) = (j ≡ v.job) × (n ≡ v.seq)
Answers store (taken.Visit v) (Close j n end) = ⊥
Answers store (taken.Visit v) Last = ⊥
Answers store (taken.Close j n end) (Checked w d) = ⊥
Answers store (taken.Close j n end) (Unchecked k m) = ⊥
Answers store (taken.Close j n end) (Close k m e) = (k ≡ j) × (m ≡ n) × (e ≡ end)
Answers store (taken.Close j n end) Last = ⊥
Answers store taken.Stop (Checked w d) = ⊥
Answers store taken.Stop (Unchecked j n) = ⊥
Answers store taken.Stop (Close j n end) = ⊥
Answers store taken.Stop Last = Unit {0}

-- one answer is sent for each item that was taken, in their order
abbrev pub SentFor : Blocks → List Item → List Verdicted → Type 0
SentFor store [] [] = Unit {0}
SentFor store [] (y ∷ ys) = ⊥
SentFor store (x ∷ xs) [] = ⊥
SentFor store (x ∷ xs) (y ∷ ys) = Answers store x y × SentFor store xs ys

-- what the courses of these jobs allow
abbrev pub IsOfCourse : Blocks → List JobMeaning → Item → Type 0
IsOfCourse store jobs (taken.Visit v) = (v.job < length jobs) × (slice_get (visits_at store jobs v.job) v.seq ≡ Some v)
IsOfCourse store jobs (taken.Close j n end) = (j < length jobs) × IsCloseOf end n (judged_at store jobs j) (over_at store jobs j)
IsOfCourse store jobs taken.Stop = Unit {0}

-- 1 if x is of job j and has the number n, and else 0
abbrev pub is_item : ℕ → ℕ → Item → ℕ
is_item j n x = cond (is_of j x) (point (seq_of x) n) 0

-- 1 if x is a close of job j with the number n, and else 0
abbrev pub is_end : ℕ → ℕ → Item → ℕ
is_end j n (taken.Visit v) = 0
is_end j n (taken.Close k m end) = cond (k == j) (point m n) 0
is_end j n taken.Stop = 0

-- Each is allowed, no number of a job was taken twice, and none is above that of the job's close. Only counts are named, so any
-- order is good.
pub record IsGoodTaken (store : Blocks) (jobs : List JobMeaning) (items : List Item) : Type 0 where
  pub allowed : All (IsOfCourse store jobs) items
  pub once : (j n : ℕ) → total (is_item j n) items ≤ 1
  pub last : (j k n : ℕ) → 0 < total (is_end j k) items → k < n → total (is_item j n) items ≡ 0
  pub small : (j : ℕ) → length (judged_at store jobs j) ≤ 4294967295
