-- What the collector does with what it receives.
use Rattle.std.specs.Prelude.{◌≡◌, ℕ, false, List, ◌++◌, length, Some}
use Rattle.ix_store.specs.Store.{Blocks}
use Rattle.ix_walk.specs.JobMeaning.{JobMeaning}
use Rattle.ix_car.specs.declared.sink.End.{End}
use Rattle.ix_car.specs.Events.{Calls}
use Rattle.ix_car.specs.Headline.{EachDelivered, EachKept, Fact, IsCheckedOnce, NoneIsStart}
use Rattle.ix_stages.specs.declared.lanes.LaneIn.{LaneIn}
use Rattle.ix_stages.specs.declared.lanes.LaneOut.{LaneOut}
use Rattle.ix_stages.specs.declared.verdicted.Verdicted.{Verdicted}
use Rattle.ix_stages.specs.Lanes.{EachLane}
use Rattle.ix_stages.specs.Received.{Inserts, job_of, pairs_of}
use Rattle.ix_pipeline.specs.declared.collector.Collector.{Collector}
use Rattle.ix_pipeline.specs.Collected.{job_count, has_unexpected, IsDone, IsStray, MayTell, IsCollected, IsCollectedFrom}

-- what holds if the item is unexpected
abbrev pub IfStray : Collector → Verdicted → Type 0 → Type 0
IfStray c x P = (job : ℕ) → job_of x ≡ Some job → IsStray c x job → P

module _ {S : Type 0} (calls : S → Calls) where
  -- there are as many sinks as jobs, and each may be called with what comes next
  pub record CanCollect (c : Collector) (ss : List S) : Type 0 where
    pub sinks : length ss ≡ job_count c
    pub may : MayTell calls c ss

  -- the two ends of each lane are here and every sink was closed, so what is left in the lanes can be collected
  pub record CanFinish (senders : List LaneIn) (receivers : List LaneOut) (c : Collector) (ss : List S) : Type 0 where
    pub lanes : EachLane senders receivers
    pub can : CanCollect c ss
    pub done : IsDone c

  -- the collector went on from c to d: it can still collect for as many jobs, each sink's fact is kept, and if it was done it
  -- still is
  pub record GoesOn {About : Type 0} (guarantee : Fact S About) (c d : Collector) (first last : List S) : Type 0 where
    pub sinks : length last ≡ job_count d
    pub jobs : job_count d ≡ job_count c
    pub may : MayTell calls d last
    pub kept : EachKept guarantee first last
    pub done : IsDone c → IsDone d

  -- these items were collected, whatever the blocks and jobs are
  abbrev pub HasCollected : List Verdicted → Collector → List S → Type 0
  HasCollected got c sinks = (store : Blocks) (jobs : List JobMeaning) → IsCollected calls store jobs got c sinks

  -- the item was collected besides what was collected before
  abbrev pub CollectsItem : Verdicted → Collector → Collector → List S → List S → Type 0
  CollectsItem x c d first sinks = (store : Blocks) (jobs : List JobMeaning) (got more : List Verdicted) → Inserts x got more → IsCollected calls store jobs got c first → IsCollected calls store jobs more d sinks

  -- the collector went on, and collected this of one lane, if it had collected the old before; what other lanes gave is before
  -- and after it
  pub record CollectsAmong {About : Type 0} (guarantee : Fact S About) (old new : List Verdicted) (c d : Collector) (first last : List S) : Type 0 where
    pub on : GoesOn guarantee c d first last
    pub collected : (store : Blocks) (jobs : List JobMeaning) (before after : List Verdicted) → IsCollected calls store jobs (before ++ old ++ after) c first → IsCollected calls store jobs (before ++ new ++ after) d last

  -- the same for all lanes; what was received from elsewhere is before it
  pub record CollectsAfter {About : Type 0} (guarantee : Fact S About) (old new : List Verdicted) (c d : Collector) (first last : List S) : Type 0 where
    pub on : GoesOn guarantee c d first last
    pub collected : (store : Blocks) (jobs : List JobMeaning) (before : List Verdicted) → IsCollected calls store jobs (before ++ old) c first → IsCollected calls store jobs (before ++ new) d last

  -- what follows from these items: none was unexpected, each sink got what its job calls for, and each visit was checked as
  -- often as it is to be
  pub record IsExported (store : Blocks) (jobs : List JobMeaning) (got : List Verdicted) (c : Collector) (sinks : List S) (ends : List End) : Type 0 where
    pub none : has_unexpected c ≡ false
    pub delivered : EachDelivered calls store 0 jobs ends sinks
    pub checked : IsCheckedOnce calls store jobs ends sinks (pairs_of got)
    pub started : NoneIsStart ends

  -- it follows for any items that the collector received, if they were good
  abbrev pub IfCollected : Collector → List S → List End → Type 0
  IfCollected c sinks ends = (store : Blocks) (jobs : List JobMeaning) (got : List Verdicted) → IsCollectedFrom calls store jobs got c sinks → IsExported store jobs got c sinks ends
