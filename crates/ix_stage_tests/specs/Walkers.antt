-- The seats of a queue of walks.
use Rattle.std.specs.Prelude.{◌≡◌, ◌≤◌, ◌<◌, ℕ, false, List, All, Result, IfOk, Some, length, drop, slice_get}
use Rattle.std.specs.Global.{Vec}
use Rattle.std.specs.declared.alloc.AllocError.{AllocError}
use Rattle.atomic_table.specs.Seated.{TableId}
use Rattle.ix_walk.specs.declared.visit.Visit.{Visit}
use Rattle.ix_walk.specs.JobMeaning.{JobMeaning}
use Rattle.ix_walk.specs.WalkLeft.{WalkLeft}
use Rattle.ix_stages.specs.declared.item.Item.{Item}
use Rattle.ix_stages.specs.declared.parts.QueueParts.{QueueParts}
use Rattle.ix_stages.specs.declared.course.JobVisits.{JobVisits}
use Rattle.ix_stages.specs.declared.queue.VisitQueue.{VisitQueue}
use Rattle.ix_stages.specs.Course.{course_visits, course_over}
use Rattle.ix_stages.specs.Queue.{table_of}
use Rattle.ix_stages.specs.Seats.{JobView, SeatView, IsNext}

-- each job's limit is below 2^32
abbrev pub AreSmall : List JobMeaning → Type 0
AreSmall jobs = All (λ job. job.limit ≤ 4294967295) jobs

-- there is one job, with such a limit
abbrev pub IsOneJob : List JobMeaning → Type 0
IsOneJob jobs = AreSmall jobs × (length jobs ≡ 1)

-- the seat is still of the same queue
abbrev pub IsSameTable : TableId → TableId → Type 0
IsSameTable old new = new ≡ old

-- a seat of the queue, of which nothing was put so far
abbrev pub CanWalk : VisitQueue → List JobVisits → JobView → Type 0
CanWalk queue course s = (s.table ≡ table_of queue) × (s.pass.course ≡ course) × (s.next ≡ 0) × (s.closed ≡ false)

-- each job's seat of a queue is one
abbrev pub CanAllWalk : QueueParts → List JobVisits → Type 0
CanAllWalk parts course = All (CanWalk parts.queue course) parts.jobs.items

-- each visit has the number of the job, and its own
abbrev pub AreNumbered : ℕ → List Visit → Type 0
AreNumbered job visits = (n : ℕ) (v : Visit) → slice_get visits n ≡ Some v → (v.job ≡ job) × (v.seq ≡ n)

-- the walk has left what the course has of the job from its visit n on
pub record HasLeft (course : List JobVisits) (job n : ℕ) (w : WalkLeft) : Type 0 where
  pub job_is_there : job < length course
  pub numbered : AreNumbered job (course_visits course job)
  pub within : n ≤ length (course_visits course job)
  pub left : drop n (course_visits course job) ≡ w.visits
  pub limited : w.limited ≡ course_over course job

-- what the seat has not put so far
abbrev pub IsLeft : JobView → WalkLeft → Type 0
IsLeft s w = HasLeft s.pass.course s.job s.next w

-- an open seat of the queue, and the walk of what it has not put so far
abbrev pub CanGoOn : VisitQueue → JobView → WalkLeft → Type 0
CanGoOn queue s w = (s.table ≡ table_of queue) × (s.closed ≡ false) × IsLeft s w

-- an open seat of the queue, whose next item this is
abbrev pub CanClose : VisitQueue → JobView → Item → Type 0
CanClose queue s close = (s.table ≡ table_of queue) × (s.closed ≡ false) × IsNext s close

-- a seat of the queue that puts, and one that takes
abbrev pub IsWalker : VisitQueue → JobView → Type 0
IsWalker queue s = s.table ≡ table_of queue

abbrev pub IsTaker : VisitQueue → SeatView → Type 0
IsTaker queue s = s.table ≡ table_of queue

-- what walkers come back as is of the same queue
pub record HasWalked (queue : VisitQueue) (seats : Result (Vec JobView) AllocError) (stopper : SeatView) : Type 0 where
  pub walkers : IfOk seats (λ all. All (IsWalker queue) all.items)
  pub stop : stopper.table ≡ table_of queue
