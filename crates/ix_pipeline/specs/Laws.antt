-- What the laws say of what is sent for what was taken, and of what is collected.
use Rattle.std.specs.Prelude.{◌≡◌, ◌<◌, ℕ, List, [], length, Contains}
use Rattle.ix_store.specs.Store.{Blocks}
use Rattle.ix_walk.specs.JobMeaning.{JobMeaning}
use Rattle.ix_car.specs.declared.sink.End.{End}
use Rattle.ix_car.specs.Events.{Calls}
use Rattle.ix_car.specs.Headline.{EachFresh, IsEachOnce, visit_count}
use Rattle.ix_stages.specs.declared.item.Item.{Item}
use Rattle.ix_stages.specs.declared.verdicted.Verdicted.{Verdicted}
use Rattle.ix_stages.specs.Good.{IsGood}
use Rattle.ix_stages.specs.Received.{pairs_of}
use Rattle.ix_stages.specs.Sent.{SentFor, IsGoodTaken}
use Rattle.ix_pipeline.specs.declared.collector.Collector.{Collector}
use Rattle.ix_pipeline.specs.Collected.{job_count, HasEnds, IsUnused, MayTell}
use Rattle.ix_pipeline.specs.Collecting.{HasCollected, IfCollected}

-- what is sent for good items is good
abbrev pub GivesGood : Type 0
GivesGood = (store : Blocks) (jobs : List JobMeaning) (taken : List Item) (sent : List Verdicted) → IsGoodTaken store jobs taken → SentFor store taken sent → IsGood store jobs sent

-- of good items no pair is checked twice
abbrev pub IsOnceEach : Type 0
IsOnceEach = (store : Blocks) (jobs : List JobMeaning) (got : List Verdicted) → IsGood store jobs got → IsEachOnce (pairs_of got)

-- and each pair is that of a visit
abbrev pub IsWithinVisits : Type 0
IsWithinVisits = (store : Blocks) (jobs : List JobMeaning) (got : List Verdicted) (job seq : ℕ) → IsGood store jobs got → Contains (pairs_of got) (job, seq) → seq < visit_count store jobs job

module _ {S : Type 0} (calls : S → Calls) where
  -- before the first item each sink may be called with what comes next
  abbrev pub BeginsSafe : Type 0
  BeginsSafe = (c : Collector) (sinks : List S) → length sinks ≡ job_count c → IsUnused c → EachFresh calls sinks → MayTell calls c sinks

  -- and no item was collected
  abbrev pub BeginsCollected : Type 0
  BeginsCollected = (c : Collector) (sinks : List S) → length sinks ≡ job_count c → IsUnused c → EachFresh calls sinks → HasCollected calls [] c sinks

  -- if every sink was closed with these ends, what was collected is exported
  abbrev pub GivesExported : Type 0
  GivesExported = (c : Collector) (sinks : List S) (ends : List End) → HasEnds c ends → IfCollected calls c sinks ends
