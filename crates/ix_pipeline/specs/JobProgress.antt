-- How far the export of a job has come.
use Rattle.std.specs.Prelude.{◌≡◌, ◌≤◌, ◌<◌, ℕ, zero, suc, ◌+◌, Bool, true, false, List, [], ◌∷◌, ◌++◌, length, take, drop, map, Option, Some, None, slice_get}
use Rattle.ix_car.specs.declared.sink.Delivery.{Delivery}
use Rattle.ix_car.specs.declared.sink.End.{End}
use Rattle.ix_car.specs.declared.sink.End.TheVariants.{Memory, Write, Start}
use Rattle.ix_car.specs.Events.{Event, delivery, close, IsOpen}
use Rattle.ix_car.specs.Faithful.{EndFits}
use Rattle.ix_stages.specs.declared.verdicted.Verdicted.{Verdicted}
use Rattle.ix_stages.specs.declared.verdicted.Verdicted.TheVariants.{Checked, Unchecked, Close, Last}
use Rattle.ix_pipeline.specs.declared.job_progress.JobProgress.{JobProgress}
use Rattle.ix_pipeline.specs.declared.job_progress.Stage.{Stage}
use Rattle.ix_pipeline.specs.declared.job_progress.Stage.TheVariants.{Delivering, Failed, Stopped}
use Rattle.ix_pipeline.specs.declared.job_progress.WalkEnd.{WalkEnd}
use Rattle.ix_pipeline.specs.Numbered.{Numbered, found, IsFree}
use Rattle.ix_stages.specs.Received.{Tally, seen, point}
use Rattle.ix_stages.specs.Good.{IsCloseOf}

-- the sum of f below n
abbrev pub below : (ℕ → ℕ) → ℕ → ℕ
below f zero = 0
below f (suc n) = f n + below f n

-- what was received of a job fits its visits, as far as counts say
pub record IsFine (all : List Delivery) (t : Tally) : Type 0 where
  pub small : length all ≤ 4294967295
  pub once : (n : ℕ) → seen t n ≤ 1
  pub last : (k n : ℕ) → 0 < t.closes k → k < n → seen t n ≡ 0
  pub within : (n : ℕ) → length all < n → seen t n ≡ 0
  pub counted : t.count ≡ below (seen t) (suc (length all))

-- one item more: how much each count rises
pub record Adds (t u : Tally) (checked unchecked closes : ℕ → ℕ) : Type 0 where
  pub checked_is : (n : ℕ) → u.checked n ≡ checked n + t.checked n
  pub unchecked_is : (n : ℕ) → u.unchecked n ≡ unchecked n + t.unchecked n
  pub closes_is : (n : ℕ) → u.closes n ≡ closes n + t.closes n
  pub count_is : u.count ≡ 1 + t.count

-- no item
abbrev pub none_of : ℕ → ℕ
none_of n = 0

-- a visit with its verdict came, or one without
abbrev pub IsArrival : List Delivery → ℕ → Option Delivery → Tally → Tally → Type 0
IsArrival all seq (Some d) t u = (slice_get all seq ≡ Some d) × Adds t u (point seq) none_of none_of
IsArrival all seq None t u = (seq < length all) × Adds t u none_of (point seq) none_of

-- the close came
abbrev pub IsCloseArrival : List Delivery → Bool → ℕ → End → Tally → Tally → Type 0
IsCloseArrival all over seq end t u = IsCloseOf end seq all over × Adds t u none_of none_of (point seq)

-- an item of the job came
abbrev pub IsItem : List Delivery → Bool → Verdicted → Tally → Tally → Type 0
IsItem all over (Checked v d) t u = IsArrival all v.seq (Some (record { visit = v; verdict = d })) t u
IsItem all over (Unchecked j n) t u = IsArrival all n None t u
IsItem all over (Close j n end) t u = IsCloseArrival all over n end t u
IsItem all over Last t u = ⊥

-- what the ring has at the number k
abbrev pub IsHeld : List Delivery → Tally → Bool → ℕ → Option Delivery → Type 0
IsHeld all t out_of_memory k (Some d) = (slice_get all k ≡ Some d) × (0 < t.checked k)
IsHeld all t out_of_memory k None = (out_of_memory ≡ true) × (0 < t.unchecked k)

-- the ring has exactly the visits that came and were not delivered
pub record IsWaiting (all : List Delivery) (t : Tally) (out_of_memory : Bool) (ring : Numbered (Option Delivery)) : Type 0 where
  pub held : (k : ℕ) (o : Option Delivery) → found ring k ≡ Some o → IsHeld all t out_of_memory k o
  pub missing : (k : ℕ) → ring.next ≤ k → found ring k ≡ None → t.checked k + t.unchecked k ≡ 0

-- why so many visits were delivered and no more
abbrev pub IsOn : List Delivery → Tally → ℕ → Bool → Numbered (Option Delivery) → List Delivery → Stage → Type 0
IsOn all t count out_of_memory ring failed Delivering = (count ≡ ring.next) × (failed ≡ []) × IsWaiting all t out_of_memory ring
IsOn all t count out_of_memory ring failed Failed = (count < length all) × (failed ≡ take 1 (drop count all))
IsOn all t count out_of_memory ring failed Stopped = (out_of_memory ≡ true) × (failed ≡ [])

-- whether the close came, and which
abbrev pub IsCloseKnown : List Delivery → Bool → Tally → Bool → Option WalkEnd → Type 0
IsCloseKnown all over t out_of_memory None = (k : ℕ) → t.closes k ≡ 0
IsCloseKnown all over t out_of_memory (Some w) = (0 < t.closes w.seq) × IsCloseOf w.end w.seq all over × (w.end ≡ Memory → out_of_memory ≡ true)

-- A job whose sink is open: its first visits were delivered.
pub record IsUnderWay (all : List Delivery) (over : Bool) (t : Tally) (p : JobProgress) (events : List Event) (failed : List Delivery) : Type 0 where
  pub arrived : p.arrived ≡ t.count
  pub closing : IsCloseKnown all over t p.out_of_memory p.close
  pub unchecked : p.out_of_memory ≡ false → (k : ℕ) → t.unchecked k ≡ 0
  pub count : ℕ
  pub within : count ≤ length all
  pub told : events ≡ map delivery (take count all)
  pub checked : (k : ℕ) → k < count → 0 < t.checked k
  pub on : IsOn all t count p.out_of_memory p.ring failed p.stage

-- the same, where o was popped from the ring and wasn't delivered yet
pub record IsPoppedUnderWay (all : List Delivery) (over : Bool) (t : Tally) (o : Option Delivery) (p : JobProgress) (events : List Event) (failed : List Delivery) : Type 0 where
  pub arrived : p.arrived ≡ t.count
  pub closing : IsCloseKnown all over t p.out_of_memory p.close
  pub unchecked : p.out_of_memory ≡ false → (k : ℕ) → t.unchecked k ≡ 0
  pub count : ℕ
  pub within : count ≤ length all
  pub told : events ≡ map delivery (take count all)
  pub checked : (k : ℕ) → k < count → 0 < t.checked k
  pub next : p.ring.next ≡ suc count
  pub popped : IsHeld all t p.out_of_memory count o
  pub failed_none : failed ≡ []
  pub waiting : IsWaiting all t p.out_of_memory p.ring

-- A job whose sink was closed: all its items came.
pub record IsOver (all : List Delivery) (over : Bool) (t : Tally) (end : End) (events : List Event) (failed : List Delivery) : Type 0 where
  pub count : ℕ
  pub within : count ≤ length all
  pub told : events ≡ map delivery (take count all) ++ close end ∷ []
  pub fits : EndFits end count all over failed
  pub checked : (k : ℕ) → k < count → 0 < t.checked k
  pub last : ℕ
  pub closed : 0 < t.closes last
  pub full : t.count ≡ suc last
  pub every : (end ≡ Memory → ⊥) → (k : ℕ) → k < length all → 0 < t.checked k
  pub started : end ≡ Start → ⊥

-- there is nothing to deliver next
abbrev pub IsCalm : JobProgress → Type 0
IsCalm p = p.stage ≡ Delivering → found p.ring p.ring.next ≡ None

-- how far a job has come, by how its sink was closed
abbrev pub IsComeTo : List Delivery → Bool → Tally → JobProgress → List Event → List Delivery → Option End → Type 0
IsComeTo all over t p events failed None = IsUnderWay all over t p events failed × IsCalm p
IsComeTo all over t p events failed (Some end) = IsOver all over t end events failed

-- how far a job has come, between two items
abbrev pub IsCome : List Delivery → Bool → Tally → JobProgress → List Event → List Delivery → Type 0
IsCome all over t p events failed = IsComeTo all over t p events failed p.end

-- the job doesn't expect the item: while visits are delivered its number was passed, is too far or is taken, or it is a second
-- close
abbrev pub IsMisplaced : JobProgress → Verdicted → Type 0
IsMisplaced p (Checked v d) = (p.stage ≡ Delivering) × (IsFree p.ring v.seq → ⊥)
IsMisplaced p (Unchecked j n) = (p.stage ≡ Delivering) × (IsFree p.ring n → ⊥)
IsMisplaced p (Close j n end) = (w : WalkEnd) × (p.close ≡ Some w)
IsMisplaced p Last = Unit {0}

-- while visits are delivered, the number is less than 16,384 above the next
abbrev pub IsNear : JobProgress → ℕ → Type 0
IsNear p n = p.stage ≡ Delivering → n < p.ring.next + 16384

-- the number of the item is near, if it is that of a visit
abbrev pub IsItemNear : JobProgress → Verdicted → Type 0
IsItemNear p (Checked v d) = IsNear p v.seq
IsItemNear p (Unchecked j n) = IsNear p n
IsItemNear p (Close j n end) = Unit {0}
IsItemNear p Last = Unit {0}

-- the job has room for the item: its sink was closed, or the item is near
abbrev pub HasRoomFor : JobProgress → Verdicted → Type 0
HasRoomFor p x = p.end ≡ None → IsItemNear p x

-- while visits are delivered no write has failed
abbrev pub MayDeliver : Stage → List Delivery → Type 0
MayDeliver Delivering failed = failed ≡ []
MayDeliver Failed failed = Unit {0}
MayDeliver Stopped failed = Unit {0}

-- the sink may be called with what comes next, by how it was closed
abbrev pub IsSafeAt : Option End → Stage → List Event → List Delivery → Type 0
IsSafeAt None stage events failed = IsOpen events × MayDeliver stage failed
IsSafeAt (Some end) stage events failed = Unit {0}

-- a sink that is not closed may be closed, and while visits are delivered it accepts them
abbrev pub IsSafe : JobProgress → List Event → List Delivery → Type 0
IsSafe p events failed = IsSafeAt p.end p.stage events failed

-- the sink was closed
abbrev pub IsEnded : JobProgress → Type 0
IsEnded p = (end : End) × (p.end ≡ Some end)

-- how a job ends whose walk ended so: out of memory comes first, then a failed write
abbrev pub end_of : Bool → Stage → End → End
end_of true stage end = Memory
end_of false Delivering end = end
end_of false Failed end = Write
end_of false Stopped end = end

-- nothing was received
pub record IsNew (p : JobProgress) : Type 0 where
  pub ring : p.ring ≡ record { next = 0; entries = [] }
  pub arrived : p.arrived ≡ 0
  pub close : p.close ≡ None
  pub out_of_memory : p.out_of_memory ≡ false
  pub stage : p.stage ≡ Delivering
  pub end : p.end ≡ None
