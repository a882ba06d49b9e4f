-- What a course says of each job, and what it allows.
use Rattle.std.specs.Prelude.{◌≡◌, ℕ, zero, suc, ◌+◌, ◌≤◌, ◌<◌, ◌⊎◌, Bool, false, List, [], ◌∷◌, ◌++◌, length, map, take, slice_get, Some, All}
use Rattle.ix_walk.specs.declared.visit.Visit.{Visit}
use Rattle.ix_store.specs.Store.{Blocks}
use Rattle.ix_walk.specs.JobMeaning.{JobMeaning}
use Rattle.ix_walk.specs.Visits.{visits_of, is_over_limit}
use Rattle.ix_check.specs.Visits.{IsVisitOf}
use Rattle.ix_car.specs.declared.sink.End.{End}
use Rattle.ix_stages.specs.declared.course.JobVisits.{JobVisits}
use Rattle.ix_stages.specs.declared.item.Item.{Item}
use Rattle.ix_stages.specs.declared.item.Item.TheVariants as item
use Rattle.ix_stages.specs.Good.{IsCloseOf}
use Rattle.ix_stages.specs.Sent.{is_item, is_end}
use Rattle.ix_stages.specs.Totals.{total}

-- each job has fewer than 2^32 visits
abbrev pub IsCourse : List JobVisits → Type 0
IsCourse course = All (λ p. length p.visits ≤ 4294967295) course

-- the visits of a job, or none if there is no such job
abbrev pub course_visits : List JobVisits → ℕ → List Visit
course_visits [] j = []
course_visits (p ∷ ps) zero = p.visits
course_visits (p ∷ ps) (suc j) = course_visits ps j

-- the job's traversal exceeds its limit
abbrev pub course_over : List JobVisits → ℕ → Bool
course_over [] j = false
course_over (p ∷ ps) zero = p.is_truncated
course_over (p ∷ ps) (suc j) = course_over ps j

-- the job may be closed with this end after n visits
abbrev pub MayClose : List JobVisits → ℕ → ℕ → End → Type 0
MayClose course j n end = (j < length course) × IsCloseOf end n (course_visits course j) (course_over course j)

-- the course allows the item at its job and number
abbrev pub Allowed : List JobVisits → Item → Type 0
Allowed course (item.Visit v) = slice_get (course_visits course v.job) v.seq ≡ Some v
Allowed course (item.Close j n end) = MayClose course j n end
Allowed course item.Stop = Unit {0}

-- the first n visits of a job, as items
abbrev pub opened : List JobVisits → ℕ → ℕ → List Item
opened course j n = map item.Visit (take n (course_visits course j))

-- what a job's seat may have put: a prefix of the job's visits, or such a prefix and an allowed close
abbrev pub IsPut : List JobVisits → ℕ → List Item → Type 0
IsPut course j put = (n : ℕ) × (n ≤ length (course_visits course j)) × ((put ≡ opened course j n) ⊎ ((end : End) × (put ≡ opened course j n ++ item.Close j n end ∷ []) × MayClose course j n end))

-- how often the visit or close n of job j occurs in the list
abbrev pub times : ℕ → ℕ → List Item → ℕ
times j n items = total (is_item j n) items

-- how often the close n of job j occurs in the list
abbrev pub ends : ℕ → ℕ → List Item → ℕ
ends j n items = total (is_end j n) items

-- The course allows each, no number of a job occurs twice, and none is above that of the job's close.
pub record IsWellTaken (course : List JobVisits) (items : List Item) : Type 0 where
  pub allowed : All (Allowed course) items
  pub once : (j n : ℕ) → times j n items ≤ 1
  pub last : (j k n : ℕ) → 0 < ends j k items → k < n → times j n items ≡ 0

-- each visit of the course says of its CID what the store says: the block, and whether it is malformed
abbrev pub IsCourseOf : Blocks → List JobVisits → Type 0
IsCourseOf store course = All (λ p. All (IsVisitOf store) p.visits) course

-- the visits of these jobs, the first of which has the number n
abbrev pub course_from : Blocks → ℕ → List JobMeaning → List JobVisits
course_from store n [] = []
course_from store n (job ∷ jobs) = record { visits = visits_of store n job; is_truncated = is_over_limit store job } ∷ course_from store (n + 1) jobs

-- the course of these jobs
abbrev pub course_of : Blocks → List JobMeaning → List JobVisits
course_of store jobs = course_from store 0 jobs
