-- What a flow is given, and what it leaves.
use Rattle.std.specs.Prelude.{ℕ, ◌<◌, List, length, Contains}
use Rattle.ix_car.specs.Events.{Calls}
use Rattle.ix_car.specs.Headline.{EachDelivered, EachKept, Fact, IsCheckedOnce, NoneOrAllStart, IsEachOnce, checked_by, visit_count}
use Rattle.ix_stages.specs.declared.shared.Shared.{Shared}
use Rattle.ix_stages.specs.declared.shared.Task.{Task}
use Rattle.ix_stages.specs.Shared.{jobs_of}
use Rattle.ix_stages.specs.Walking.{AreReady}
use Rattle.ix_pipeline.specs.declared.caller.Caller.{Caller}
use Rattle.ix_pipeline.specs.declared.flowing.Outcome.{Outcome}
use Rattle.ix_pipeline.specs.Caller.{CanStart}
use Rattle.ix_pipeline.specs.Sinks.{AreFreshSinks}

module _ {S C G About : Type 0} (calls : S → Calls) (guarantee : Fact S About) (checked : C → List (ℕ × ℕ)) (x : Task G) (first sinks : List S) where
  -- each sink received what its job calls for and keeps what it promised, each visit was checked as often as it is to be, and no job ended for lack of threads, or every job did
  pub record IsFlown (receiver : Outcome C) : Type 0 where
    pub delivered : EachDelivered calls x.walks.now.store 0 x.walks.now.jobs receiver.ends.items sinks
    pub kept : EachKept guarantee first sinks
    pub checks : IsCheckedOnce calls x.walks.now.store x.walks.now.jobs receiver.ends.items sinks (checked_by checked receiver.checks.items)
    pub started : NoneOrAllStart receiver.ends.items

-- each pair that was checked is that of a visit, and was checked once
pub record AreVisitsOnce {C G : Type 0} (checked : C → List (ℕ × ℕ)) (x : Task G) (checks : List C) : Type 0 where
  pub once : IsEachOnce (checked_by checked checks)
  pub within : (job seq : ℕ) → Contains (checked_by checked checks) (job, seq) → seq < visit_count x.walks.now.store x.walks.now.jobs job

-- the threads can be started, and the sinks received nothing
pub record CanFlow {S C G : Type 0} (calls : S → Calls) (checked : C → List (ℕ × ℕ)) (x : Shared G) (sinks : List S) (d : Caller C) : Type 0 where
  pub seats : AreReady x
  pub caller : CanStart checked x d
  pub fresh : AreFreshSinks calls (length (jobs_of x)) sinks
