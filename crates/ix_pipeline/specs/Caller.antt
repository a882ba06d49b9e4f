-- The caller of a flow: what it has before the first thread, and what each of its steps leaves.
use Rattle.std.specs.Prelude.{◌≡◌, ℕ, ◌≤◌, List, [], All, length, vec_len, vec_capacity}
use Rattle.std.specs.Global.{Vec}
use Rattle.std.specs.declared.thread.PromisedHandle.{PromisedHandle}
use Rattle.atomic_table.specs.Seated.{TableId}
use Rattle.ix_store.specs.Store.{Blocks}
use Rattle.ix_walk.specs.JobMeaning.{JobMeaning}
use Rattle.ix_car.specs.Events.{Calls}
use Rattle.ix_car.specs.Headline.{Fact, checked_by}
use Rattle.ix_stages.specs.declared.item.Item.{Item}
use Rattle.ix_stages.specs.declared.verdicted.Verdicted.{Verdicted}
use Rattle.ix_stages.specs.Claims.{ClaimsMeaning, IsOfClaims}
use Rattle.ix_stages.specs.Course.{course_of}
use Rattle.ix_stages.specs.Good.{IsGood}
use Rattle.ix_stages.specs.Lanes.{EachLane, EachSameOut, all_received, all_sent}
use Rattle.ix_stages.specs.Received.{pairs_of}
use Rattle.ix_stages.specs.Seats.{JobView, SeatView}
use Rattle.ix_stages.specs.Sent.{SentFor}
use Rattle.ix_stages.specs.Settled.{taken_by}
use Rattle.ix_stages.specs.declared.shared.Shared.{Shared}
use Rattle.ix_stages.specs.Shared.{store_of, jobs_of, queue_of}
use Rattle.ix_pipeline.specs.Collected.{job_count, IsDone, IsUnused}
use Rattle.ix_pipeline.specs.Collecting.{CanCollect, GoesOn, HasCollected}
use Rattle.ix_pipeline.specs.declared.caller.Caller.{Caller}
use Rattle.ix_pipeline.specs.declared.verifying.StartFacts.{StartFacts}
use Rattle.ix_pipeline.specs.declared.verifying.Verifier.{Verifier}
use Rattle.ix_pipeline.specs.Verifiers.{IsUnstarted, IsBegan, EachOut, EachBack}

-- a seat of the same queue and the same course, which may have put Stops in between
abbrev pub IsSeatOf : SeatView → SeatView → Type 0
IsSeatOf old new = (new.table ≡ old.table) × (new.pass.course ≡ old.pass.course)

-- whatever is sent for these items is good
abbrev pub IsAnsweredWell : {G : Type 0} → Shared G → List Item → Type 0
IsAnsweredWell x taken = (sent : List Verdicted) → SentFor (store_of x) taken sent → IsGood (store_of x) (jobs_of x) sent

-- nothing is in it yet, and so many have room
abbrev pub IsRoomFor : {X : Type 0} → ℕ → Vec X → Type 0
IsRoomFor count v = (v.items ≡ []) × (count ≤ vec_capacity v)

module _ {C : Type 0} where
  -- room for what so many verifiers give back
  abbrev pub HasJoinRoom : ℕ → Caller C → Type 0
  HasJoinRoom count d = IsRoomFor count d.takers × IsRoomFor count d.senders × IsRoomFor count d.checks

  -- it has received nothing and no verifier runs, and there is room for so many jobs and verifiers
  pub record HasRoom (jobs count : ℕ) (d : Caller C) : Type 0 where
    pub collector : IsUnused d.collector × (job_count d.collector ≡ jobs)
    pub verifiers : IsRoomFor count d.verifiers
    pub lanes : IsRoomFor count d.lanes
    pub join : HasJoinRoom count d
    pub ends : IsRoomFor jobs d.ends

  -- the same but for what it has received, and the seat that stops verifiers may have put Stops
  pub record Stops (a b : Caller C) : Type 0 where
    pub seat : IsSeatOf a.stop b.stop
    pub rest : b ≡ record a { lanes = b.lanes; collector = b.collector; stop = b.stop }

module _ {S C : Type 0} (calls : S → Calls) where
  -- each sink received what the items say that the lanes gave, if they are good, and may receive what comes next
  abbrev pub IsTold : Caller C → List S → Type 0
  IsTold d sinks = CanCollect calls d.collector sinks × HasCollected calls (all_received d.lanes.items) d.collector sinks

  -- it went on receiving, and its collector has received what the lanes gave by now
  pub record Gathers {About : Type 0} (guarantee : Fact S About) (a b : Caller C) (first sinks : List S) : Type 0 where
    pub on : GoesOn calls guarantee a.collector b.collector first sinks
    pub collected : HasCollected calls (all_received b.lanes.items) b.collector sinks
    pub lanes : EachSameOut a.lanes.items b.lanes.items
    pub stops : Stops a b

  -- all senders are back, in the order of the receivers, and every sink of so many jobs is closed
  pub record CanDrain (count : ℕ) (d : Caller C) (sinks : List S) : Type 0 where
    pub lanes : EachLane d.senders.items d.lanes.items
    pub told : IsTold d sinks
    pub jobs : job_count d.collector ≡ count
    pub done : IsDone d.collector

module _ {C : Type 0} (checked : C → List (ℕ × ℕ)) where
  -- what is made for the export of these jobs: verifiers and claimers that weren't started yet, the seat that stops, and room
  pub record IsCaller (store : Blocks) (jobs : List JobMeaning) (t : TableId) (claims : ClaimsMeaning JobView) (d : Caller C) : Type 0 where
    pub unstarted : All (IsUnstarted checked store t) d.unstarted.items
    pub claimers : All (IsOfClaims claims) d.claimers.items
    pub limits : All (λ job. job.limit ≤ 4294967295) jobs
    pub stop : (d.stop.table ≡ t) × (d.stop.pass.course ≡ course_of store jobs)
    pub room : HasRoom (length jobs) (vec_len d.unstarted) d

  -- seats of this queue, what was sent for all that they took, and just as much was checked
  pub record IsJoined (store : Blocks) (t : TableId) (d : Caller C) : Type 0 where
    pub tables : All (λ s. s.table ≡ t) d.takers.items
    pub sent : SentFor store (taken_by d.takers.items) (all_sent d.senders.items)
    pub checks : checked_by checked d.checks.items ≡ pairs_of (all_sent d.senders.items)

  -- it has what the verifiers gave back that were started so, whatever queue and store they were started with
  abbrev pub AreJoined : List (PromisedHandle (Verifier C) (StartFacts C)) → Caller C → Type 0
  AreJoined handles d = (store : Blocks) (t : TableId) → All (IsBegan checked store t) handles → IsJoined store t d

  -- the verifiers were joined, and nothing else changed
  pub record Joins (a b : Caller C) : Type 0 where
    pub joined : AreJoined a.verifiers.items b
    pub lanes : EachBack a.verifiers.items b.senders.items
    pub rest : b ≡ record a { verifiers = b.verifiers; takers = b.takers; senders = b.senders; checks = b.checks }

module _ {C G : Type 0} (checked : C → List (ℕ × ℕ)) (x : Shared G) where
  -- the same, of the jobs, the queue and the claims that the threads share
  abbrev pub CanStart : Caller C → Type 0
  CanStart d = IsCaller checked (store_of x) (jobs_of x) (queue_of x) x.claims.now d

  -- verifiers run that began with nothing, and nothing was received
  pub record IsStarted (d : Caller C) : Type 0 where
    pub began : All (IsBegan checked (store_of x) (queue_of x)) d.verifiers.items
    pub lanes : EachOut d.verifiers.items d.lanes.items
    pub none : all_received d.lanes.items ≡ []
    pub collector : IsUnused d.collector × (job_count d.collector ≡ length (jobs_of x))
    pub limits : All (λ job. job.limit ≤ 4294967295) (jobs_of x)
    pub stop : (d.stop.table ≡ queue_of x) × (d.stop.pass.course ≡ course_of (store_of x) (jobs_of x))
    pub join : HasJoinRoom (vec_len d.verifiers) d
    pub ends : IsRoomFor (length (jobs_of x)) d.ends

  -- all verifiers were joined: the seats may be settled, and there is room for the ends
  pub record HasJoined (d : Caller C) : Type 0 where
    pub limits : All (λ job. job.limit ≤ 4294967295) (jobs_of x)
    pub stop : (d.stop.table ≡ queue_of x) × (d.stop.pass.course ≡ course_of (store_of x) (jobs_of x))
    pub joined : IsJoined checked (store_of x) (queue_of x) d
    pub ends : IsRoomFor (length (jobs_of x)) d.ends
