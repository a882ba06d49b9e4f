-- The seats with which a walker begins.
use Rattle.std.specs.Prelude.{◌≡◌, ◌<◌, false, List, length, All}
use Rattle.atomic_table.specs.Seated.{TableId}
use Rattle.ix_store.specs.Store.{Blocks}
use Rattle.ix_walk.specs.JobMeaning.{JobMeaning}
use Rattle.ix_stages.specs.Claims.{SeatMeaning, IsOfClaims}
use Rattle.ix_stages.specs.Course.{course_of}
use Rattle.ix_stages.specs.Seats.{JobView}
use Rattle.ix_stages.specs.declared.shared.Shared.{Shared}
use Rattle.ix_stages.specs.Shared.{store_of, jobs_of, queue_of}

-- the seat is of one of these jobs, in the queue of their course, and has put nothing
pub record IsReady (store : Blocks) (jobs : List JobMeaning) (t : TableId) (s : JobView) : Type 0 where
  pub table : s.table ≡ t
  pub job : s.job < length jobs
  pub begins : (s.next ≡ 0) × (s.closed ≡ false)
  pub course : s.pass.course ≡ course_of store jobs

module _ {G : Type 0} (x : Shared G) where
  -- the same, of the jobs and the queue that the threads share
  abbrev pub IsReadyIn : JobView → Type 0
  IsReadyIn s = IsReady (store_of x) (jobs_of x) (queue_of x) s

  -- every value that can be claimed is such a seat
  abbrev pub AreReady : Type 0
  AreReady = All IsReadyIn x.claims.now.values

  -- the claimer draws from these claims, whose values are such seats
  pub record CanClaim (s : SeatMeaning JobView) : Type 0 where
    pub seats : AreReady
    pub claimer : IsOfClaims x.claims.now s
