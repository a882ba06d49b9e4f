-- What each step does to the export of a job: how far it has come, if what came fits its visits.
use Rattle.std.specs.Prelude.{◌≡◌, Bool, true, List, Option, None}
use Rattle.ix_car.specs.declared.sink.Delivery.{Delivery}
use Rattle.ix_car.specs.Events.{Event, Calls}
use Rattle.ix_car.specs.Headline.{Fact, Keeps}
use Rattle.ix_stages.specs.declared.verdicted.Verdicted.{Verdicted}
use Rattle.ix_stages.specs.Received.{Tally}
use Rattle.ix_pipeline.specs.declared.job_progress.JobProgress.{JobProgress}
use Rattle.ix_pipeline.specs.declared.job_progress.Stage.TheVariants.{Delivering}
use Rattle.ix_pipeline.specs.JobProgress.{IsFine, IsItem, IsUnderWay, IsPoppedUnderWay, IsCalm, IsCome, IsSafe}

-- a sink that was safe before is safe now
abbrev pub StaysSafe : JobProgress → JobProgress → Type 0
StaysSafe p q = (events : List Event) (failed : List Delivery) → IsSafe p events failed → IsSafe q events failed

-- the step doesn't call the sink, which is closed if it was, and still may be called with what comes next
abbrev pub LeavesSink : JobProgress → JobProgress → Type 0
LeavesSink p q = (q.end ≡ p.end) × StaysSafe p q

-- an arrival is accepted: the sink isn't called, and if the arrival fits, the job is under way with it
pub record IsNoted (arrival : List Delivery → Bool → Tally → Tally → Type 0) (p : JobProgress) (result : Bool) (q : JobProgress) : Type 0 where
  pub sink : LeavesSink p q
  pub under_way : (all : List Delivery) (over : Bool) (t u : Tally) (events : List Event) (failed : List Delivery) → IsFine all u → arrival all over t u → IsUnderWay all over t p events failed → (result ≡ true) × IsUnderWay all over u q events failed

module _ {S : Type 0} (calls : S → Calls) where
  -- the sink may be called with what comes next
  abbrev pub IsSafeFor : JobProgress → S → Type 0
  IsSafeFor p s = IsSafe p (calls s).events (calls s).failed

  -- the sink isn't closed, and may be called with what comes next
  abbrev pub IsOpenFor : JobProgress → S → Type 0
  IsOpenFor p s = (p.end ≡ None) × IsSafeFor p s

  -- the same for a job whose visits are delivered
  pub record IsDeliveringTo (p : JobProgress) (s : S) : Type 0 where
    pub sink : IsOpenFor p s
    pub stage : p.stage ≡ Delivering

  -- the sink may be called with what comes next, and keeps its fact
  abbrev pub KeepsSafe : {About : Type 0} → Fact S About → JobProgress → S → S → Type 0
  KeepsSafe guarantee q s r = IsSafeFor q r × Keeps guarantee s r

  -- the sink isn't closed, may be called with what comes next, and keeps its fact
  abbrev pub KeepsOpen : {About : Type 0} → Fact S About → JobProgress → S → S → Type 0
  KeepsOpen guarantee q s r = IsOpenFor q r × Keeps guarantee s r

  -- what was popped from the ring was delivered, or stopped the deliveries
  abbrev pub IsHandedOn : Option Delivery → JobProgress → S → JobProgress → S → Type 0
  IsHandedOn o p s q r = (all : List Delivery) (over : Bool) (t : Tally) → IsPoppedUnderWay all over t o p (calls s).events (calls s).failed → IsUnderWay all over t q (calls r).events (calls r).failed

  -- all that was next was delivered
  abbrev pub HasDelivered : JobProgress → S → JobProgress → S → Type 0
  HasDelivered p s q r = (all : List Delivery) (over : Bool) (t : Tally) → IsUnderWay all over t p (calls s).events (calls s).failed → IsUnderWay all over t q (calls r).events (calls r).failed × IsCalm q

  -- the sink was closed, if all has arrived
  abbrev pub HasFinished : JobProgress → S → JobProgress → S → Type 0
  HasFinished p s q r = (all : List Delivery) (over : Bool) (t : Tally) → IsFine all t → IsUnderWay all over t p (calls s).events (calls s).failed → IsCalm p → IsCome all over t q (calls r).events (calls r).failed

  -- an item that fits is received: the job has come as far as it says
  abbrev pub HasCome : Verdicted → JobProgress → S → Bool → JobProgress → S → Type 0
  HasCome x p s result q r = (all : List Delivery) (over : Bool) (t u : Tally) → IsFine all u → IsItem all over x t u → IsCome all over t p (calls s).events (calls s).failed → (result ≡ true) × IsCome all over u q (calls r).events (calls r).failed
