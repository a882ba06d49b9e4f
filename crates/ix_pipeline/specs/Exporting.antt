-- What an export by given walks requires, and what it leaves.
use Rattle.std.specs.Prelude.{◌≡◌, ℕ, List, length, vec_len, Result, IfOk, IfErr}
use Rattle.std.specs.Global.{Vec}
use Rattle.ix_walk.specs.JobMeaning.{JobMeaning, AreFew}
use Rattle.ix_car.specs.Events.{Calls}
use Rattle.ix_stages.specs.JobWalks.{WalksMeaning}
use Rattle.ix_pipeline.specs.declared.flowing.Outcome.{Outcome}
use Rattle.ix_pipeline.specs.declared.plan.Plan.{Plan}
use Rattle.ix_pipeline.specs.declared.exporting.NotStarted.{NotStarted}
use Rattle.ix_pipeline.specs.Headline.{EachDelivered, EachArchived, EachFresh, EachKept, EachUnused, Fact, IsCheckedOnce, NoneOrAllStart, checked_by}
use Rattle.ix_pipeline.specs.Planned.{IsPlan}

-- one fresh sink for each of at most 1,000 jobs, checks that have checked nothing, and a plan for as many verifiers
pub record CanExport {S C : Type 0} (calls : S → Calls) (checked : C → List (ℕ × ℕ)) (jobs : List JobMeaning) (sinks : List S) (checks : Vec C) (plan : Plan) : Type 0 where
  pub one_each : length sinks ≡ length jobs
  pub fresh : EachFresh calls sinks
  pub unused : EachUnused checked checks.items
  pub few : AreFew jobs
  pub planned : IsPlan plan (vec_len checks)

-- the clauses of `export`, of the store and the jobs of the walks
pub record HasExported {S C About : Type 0} (calls : S → Calls) (guarantee : Fact S About) (checked : C → List (ℕ × ℕ)) (walks : WalksMeaning) (first sinks : List S) (given : Vec C) (result : Result (Outcome C) (NotStarted C)) : Type 0 where
  pub delivered : IfOk result (λ out. EachDelivered calls walks.store 0 walks.jobs out.ends.items sinks)
  pub archived : IfOk result (λ out. EachArchived calls walks.store 0 walks.jobs out.ends.items sinks)
  pub started : IfOk result (λ out. NoneOrAllStart out.ends.items)
  pub facts : EachKept guarantee first sinks
  pub each_checked : IfOk result (λ out. IsCheckedOnce calls walks.store walks.jobs out.ends.items sinks (checked_by checked out.checks.items))
  pub not_started : IfErr result (λ none. (sinks ≡ first) × (none.checks.items ≡ given.items))
