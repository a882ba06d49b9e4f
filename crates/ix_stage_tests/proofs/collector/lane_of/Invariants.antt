use Rattle.ix_stages.specs.Lanes.{IsLane}
use Rattle.ix_stage_tests.proofs.collector.lane_of.Given as goal

abbrev pub invariant-loop-sent : goal.invariant-loop-sent
invariant-loop-sent l = IsLane l.sender l.receiver
