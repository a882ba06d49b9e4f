-- What may be received.
use Rattle.std.specs.Prelude.{◌≡◌, ◌≤◌, ◌<◌, ℕ, Bool, true, false, List, [], length, Option, Some, None, slice_get, All}
use Rattle.ix_store.specs.Store.{Blocks}
use Rattle.ix_walk.specs.JobMeaning.{JobMeaning}
use Rattle.ix_walk.specs.Visits.{is_over_limit}
use Rattle.ix_car.specs.declared.sink.Delivery.{Delivery}
use Rattle.ix_car.specs.declared.sink.End.{End}
use Rattle.ix_car.specs.declared.sink.End.TheVariants.{Done, Limit, Memory, Write, Start}
use Rattle.ix_car.specs.Verified.{judged_visits}
use Rattle.ix_stages.specs.declared.verdicted.Verdicted.{Verdicted}
use Rattle.ix_stages.specs.declared.verdicted.Verdicted.TheVariants.{Checked, Unchecked, Close, Last}
use Rattle.ix_stages.specs.Received.{tally, seen}

-- the visits of the job with this number, with their verdicts, or none if there is no such job
abbrev pub judged_at : Blocks → List JobMeaning → ℕ → List Delivery
judged_at store jobs n = of (slice_get jobs n) where
  of : Option JobMeaning → List Delivery
  of None = []
  of (Some job) = judged_visits store n job

-- the job with this number has a traversal that exceeds its limit
abbrev pub over_at : Blocks → List JobMeaning → ℕ → Bool
over_at store jobs n = of (slice_get jobs n) where
  of : Option JobMeaning → Bool
  of None = false
  of (Some job) = is_over_limit store job

-- a walk of these visits may close with the end, having given n of them
module _ {X : Type 0} where
  -- a walk of these visits may close with the end after n of them
  abbrev pub IsCloseOf : End → ℕ → List X → Bool → Type 0
  IsCloseOf Done n all over = (n ≡ length all) × (over ≡ false)
  IsCloseOf Limit n all over = (n ≡ length all) × (over ≡ true)
  IsCloseOf Memory n all over = n ≤ length all
  IsCloseOf Write n all over = ⊥
  IsCloseOf Start n all over = ⊥

-- what a verifier may send for these jobs
abbrev pub IsAllowed : Blocks → List JobMeaning → Verdicted → Type 0
IsAllowed store jobs (Checked v d) = (v.job < length jobs) × (slice_get (judged_at store jobs v.job) v.seq ≡ Some (record { visit = v; verdict = d }))
IsAllowed store jobs (Unchecked j n) = (j < length jobs) × (n < length (judged_at store jobs j))
IsAllowed store jobs (Close j n end) = (j < length jobs) × IsCloseOf end n (judged_at store jobs j) (over_at store jobs j)
IsAllowed store jobs Last = Unit {0}

-- Each item may be sent, no number of a job occurs twice, and none is above that of the job's close. Only counts are named, so
-- any order is good.
pub record IsGood (store : Blocks) (jobs : List JobMeaning) (got : List Verdicted) : Type 0 where
  pub allowed : All (IsAllowed store jobs) got
  pub once : (j n : ℕ) → seen (tally j got) n ≤ 1
  pub last : (j k n : ℕ) → 0 < (tally j got).closes k → k < n → seen (tally j got) n ≡ 0
  pub small : (j : ℕ) → length (judged_at store jobs j) ≤ 4294967295
