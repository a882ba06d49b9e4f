-- What came from the lanes.
use Rattle.std.specs.Prelude.{◌≡◌, ◌+◌, List, length}
use Rattle.ix_stages.specs.declared.lanes.LaneOut.{LaneOut}
use Rattle.ix_stages.specs.declared.verdicted.Verdicted.{Verdicted}
use Rattle.ix_stages.specs.Lanes.{IsFront}
use Rattle.ix_pipeline.specs.declared.collector.Collector.{Collector}
use Rattle.ix_pipeline.specs.declared.gather.Received.{Received}
use Rattle.ix_pipeline.specs.Collected.{HasRoom, last_count}

-- the result counts the items that were received, and how many of them are a verifier's last
pub record HasCounted (old new : List Verdicted) (received : Received) : Type 0 where
  pub items : length new ≡ received.items + length old
  pub ended_lanes : last_count new ≡ received.ended_lanes + last_count old

-- the collector has no room for the next item of the lane, if there is one
abbrev pub IsHeldBack : Collector → LaneOut → Type 0
IsHeldBack c l = (x : Verdicted) → IsFront l x → HasRoom c x → ⊥
