-- What a collector has made of what it received.
use Rattle.std.specs.Prelude.{◌≡◌, ◌≤◌, ◌⊎◌, ℕ, zero, suc, ◌+◌, Bool, false, List, [], ◌∷◌, length, Some, slice_get}
use Rattle.std.specs.List.{AllByRecursion}
use Rattle.ix_store.specs.Store.{Blocks}
use Rattle.ix_walk.specs.JobMeaning.{JobMeaning}
use Rattle.ix_car.specs.declared.sink.End.{End}
use Rattle.ix_car.specs.Events.{Calls}
use Rattle.ix_stages.specs.declared.verdicted.Verdicted.{Verdicted}
use Rattle.ix_pipeline.specs.declared.job_progress.JobProgress.{JobProgress}
use Rattle.ix_pipeline.specs.declared.collector.Collector.{Collector}
use Rattle.ix_stages.specs.declared.verdicted.Verdicted.TheVariants.{Checked, Unchecked, Close, Last}
use Rattle.ix_stages.specs.Received.{job_of, tally}
use Rattle.ix_stages.specs.Good.{IsGood, judged_at, over_at}
use Rattle.ix_stages.specs.Totals.{total}
use Rattle.ix_pipeline.specs.JobProgress.{IsNew, IsSafe, IsCome, IsEnded, IsMisplaced, HasRoomFor}

-- of no job was anything received
abbrev pub AllNew : List JobProgress → Type 0
AllNew ps = AllByRecursion IsNew ps

-- the sink of each job was closed
abbrev pub AllEnded : List JobProgress → Type 0
AllEnded ps = AllByRecursion IsEnded ps

-- the sink of the job with this number was closed
abbrev pub IsClosedAt : List JobProgress → ℕ → Type 0
IsClosedAt [] job = ⊥
IsClosedAt (p ∷ ps) zero = IsEnded p
IsClosedAt (p ∷ ps) (suc job) = IsClosedAt ps job

-- the job with this number doesn't expect the item
abbrev pub IsMisplacedAt : List JobProgress → Verdicted → ℕ → Type 0
IsMisplacedAt [] item job = ⊥
IsMisplacedAt (p ∷ ps) item zero = IsMisplaced p item
IsMisplacedAt (p ∷ ps) item (suc job) = IsMisplacedAt ps item job

-- the sinks were closed with these ends, job by job
abbrev pub EachEnded : List JobProgress → List End → Type 0
EachEnded [] [] = Unit {0}
EachEnded (p ∷ ps) (e ∷ es) = (p.end ≡ Some e) × EachEnded ps es
EachEnded ps es = ⊥

-- 1 for a verifier's last, and else 0
abbrev pub is_last : Verdicted → ℕ
is_last (Checked v d) = 0
is_last (Unchecked j n) = 0
is_last (Close j n end) = 0
is_last Last = 1

-- how many of these are a verifier's last
abbrev pub last_count : List Verdicted → ℕ
last_count got = total is_last got

-- for how many jobs it collects
abbrev pub job_count : Collector → ℕ
job_count c = length c.jobs.items

-- an unexpected item came
abbrev pub has_unexpected : Collector → Bool
has_unexpected c = c.unexpected

-- nothing was received
abbrev pub IsUnused : Collector → Type 0
IsUnused c = AllNew c.jobs.items × (c.unexpected ≡ false)

-- every sink was closed
abbrev pub IsDone : Collector → Type 0
IsDone c = AllEnded c.jobs.items

-- the item of the job with this number is unexpected: there is no such job, its sink was closed, or the job doesn't expect the
-- item
abbrev pub IsStray : Collector → Verdicted → ℕ → Type 0
IsStray c item job = (job_count c ≤ job) ⊎ (IsClosedAt c.jobs.items job ⊎ IsMisplacedAt c.jobs.items item job)

-- the item may be received now: its job, if there is one, has room for it
abbrev pub HasRoom : Collector → Verdicted → Type 0
HasRoom c x = (job : ℕ) (p : JobProgress) → job_of x ≡ Some job → slice_get c.jobs.items job ≡ Some p → HasRoomFor p x

-- every sink was closed, with these ends
abbrev pub HasEnds : Collector → List End → Type 0
HasEnds c ends = EachEnded c.jobs.items ends

module _ {S : Type 0} (calls : S → Calls) where
  -- each sink may be called with what comes next
  abbrev pub EachSafe : List JobProgress → List S → Type 0
  EachSafe [] [] = Unit {0}
  EachSafe (p ∷ ps) (s ∷ ss) = IsSafe p (calls s).events (calls s).failed × EachSafe ps ss
  EachSafe ps ss = ⊥

  -- there are as many sinks as jobs, and each may be called with what comes next
  abbrev pub MayTell : Collector → List S → Type 0
  MayTell c sinks = EachSafe c.jobs.items sinks

  -- job by job, from a number on: how far it has come
  abbrev pub EachCome : Blocks → List JobMeaning → List Verdicted → ℕ → List JobProgress → List S → Type 0
  EachCome store jobs got n [] [] = Unit {0}
  EachCome store jobs got n (p ∷ ps) (s ∷ ss) = IsCome (judged_at store jobs n) (over_at store jobs n) (tally n got) p (calls s).events (calls s).failed × EachCome store jobs got (n + 1) ps ss
  EachCome store jobs got n ps ss = ⊥

  -- If these items are good, none was unexpected, and each sink got what they say. The order of the items makes no difference.
  abbrev pub IsCollected : Blocks → List JobMeaning → List Verdicted → Collector → List S → Type 0
  IsCollected store jobs got c sinks = IsGood store jobs got → job_count c ≡ length jobs → (has_unexpected c ≡ false) × EachCome store jobs got 0 c.jobs.items sinks

  -- the items were good, of these jobs, and the collector received them
  pub record IsCollectedFrom (store : Blocks) (jobs : List JobMeaning) (got : List Verdicted) (c : Collector) (sinks : List S) : Type 0 where
    pub good : IsGood store jobs got
    pub sized : job_count c ≡ length jobs
    pub collected : IsCollected store jobs got c sinks
