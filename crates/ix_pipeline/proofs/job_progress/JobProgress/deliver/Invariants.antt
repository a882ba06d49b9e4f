use Rattle.std.proofs.Common.{◌≡◌, ◌-◌, None, List}
use Rattle.std.specs.Prelude.{Bool}
use Rattle.ix_car.specs.Headline.{Keeps}
use Rattle.ix_car.specs.declared.sink.Delivery.{Delivery}
use Rattle.ix_stages.specs.Received.{Tally}
use Rattle.ix_pipeline.specs.JobProgress.{IsUnderWay, IsSafe}
use Rattle.ix_pipeline.proofs.job_progress.JobProgress.deliver.Given as goal

abbrev pub invariant-loop-alloc : goal.invariant-loop-alloc
invariant-loop-alloc g l = record {
  end : l.self.end ≡ None;
  safe : IsSafe l.self (g.S.Sink.calls l.sink).events (g.S.Sink.calls l.sink).failed;
  kept : Keeps g.S.Sink.guarantee l.initial.sink l.sink;
  under : (all : List Delivery) (over : Bool) (t : Tally) → IsUnderWay all over t l.fn.self (g.S.Sink.calls l.initial.sink).events (g.S.Sink.calls l.initial.sink).failed → IsUnderWay all over t l.self (g.S.Sink.calls l.sink).events (g.S.Sink.calls l.sink).failed;
}

abbrev pub decreases-loop-alloc : goal.decreases-loop-alloc
decreases-loop-alloc g l = 4294967296 - l.self.ring.next
