-- What the laws of courses say of the course of any jobs.
use Rattle.std.specs.Prelude.{◌≡◌, ◌≤◌, ℕ, List, length, slice_get, Some, All}
use Rattle.ix_store.specs.Store.{Blocks}
use Rattle.ix_walk.specs.JobMeaning.{JobMeaning}
use Rattle.ix_walk.specs.Visits.{visits_of, is_over_limit}
use Rattle.ix_walk.specs.declared.visit.Visit.{Visit}
use Rattle.ix_car.specs.declared.sink.End.{End}
use Rattle.ix_stages.specs.declared.item.Item.{Item}
use Rattle.ix_stages.specs.declared.item.Item.TheVariants as item
use Rattle.ix_stages.specs.Course.{Allowed, IsCourse, IsCourseOf, IsWellTaken, course_of, course_visits, course_over}
use Rattle.ix_stages.specs.Good.{IsCloseOf}
use Rattle.ix_stages.specs.Sent.{IsGoodTaken}

-- it has as many jobs
abbrev pub IsSized : Type 0
IsSized = (store : Blocks) (jobs : List JobMeaning) → length (course_of store jobs) ≡ length jobs

-- of each job it has the visits of its walk
abbrev pub HasVisits : Type 0
HasVisits = (store : Blocks) (jobs : List JobMeaning) (n : ℕ) (job : JobMeaning) → slice_get jobs n ≡ Some job → course_visits (course_of store jobs) n ≡ visits_of store n job

-- and whether the traversal exceeds the job's limit
abbrev pub HasOver : Type 0
HasOver = (store : Blocks) (jobs : List JobMeaning) (n : ℕ) (job : JobMeaning) → slice_get jobs n ≡ Some job → course_over (course_of store jobs) n ≡ is_over_limit store job

-- it allows each visit of a walk at its number
abbrev pub AllowsVisits : Type 0
AllowsVisits = (store : Blocks) (jobs : List JobMeaning) (n k : ℕ) (job : JobMeaning) (v : Visit) → slice_get jobs n ≡ Some job → slice_get (visits_of store n job) k ≡ Some v → (v.job ≡ n) × (v.seq ≡ k) × Allowed (course_of store jobs) (item.Visit v)

-- and the close that ends the walk
abbrev pub AllowsCloses : Type 0
AllowsCloses = (store : Blocks) (jobs : List JobMeaning) (n k : ℕ) (job : JobMeaning) (end : End) → slice_get jobs n ≡ Some job → IsCloseOf end k (visits_of store n job) (is_over_limit store job) → Allowed (course_of store jobs) (item.Close n k end)

-- if each job's limit is below 2^32, each has fewer than 2^32 visits
abbrev pub IsSmall : Type 0
IsSmall = (store : Blocks) (jobs : List JobMeaning) → All (λ job. job.limit ≤ 4294967295) jobs → IsCourse (course_of store jobs)

-- its visits are visits of the store
abbrev pub IsOfStore : Type 0
IsOfStore = (store : Blocks) (jobs : List JobMeaning) → IsCourseOf store (course_of store jobs)

-- what is well taken by it is good
abbrev pub GivesGood : Type 0
GivesGood = (store : Blocks) (jobs : List JobMeaning) (items : List Item) → All (λ job. job.limit ≤ 4294967295) jobs → IsWellTaken (course_of store jobs) items → IsGoodTaken store jobs items
