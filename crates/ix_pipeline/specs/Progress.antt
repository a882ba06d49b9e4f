-- How far the export of a job has come.
use Rattle.std.specs.Prelude.{◌≡◌, ◌⊎◌, ℕ, zero, suc, ◌≤◌, List, [], ◌∷◌, ◌++◌, length, take, map, Result, Ok, Err}
use Rattle.std.specs.Result.{result_unwrap_or}
use Rattle.std.specs.declared.alloc.AllocError.{AllocError}
use Rattle.ix_walk.specs.declared.visit.Visit.{Visit}
use Rattle.ix_store.specs.Store.{Blocks}
use Rattle.ix_walk.specs.JobMeaning.{JobMeaning}
use Rattle.ix_walk.specs.Visits.{visits_of, is_over_limit}
use Rattle.ix_car.specs.declared.sink.Delivery.{Delivery}
use Rattle.ix_car.specs.declared.sink.End.{End}
use Rattle.ix_car.specs.declared.sink.End.TheVariants.{Memory, Start, Write}
use Rattle.ix_car.specs.Events.{Calls, delivery, IsOpen}
use Rattle.ix_car.specs.Headline.{Fact, Keeps}
use Rattle.ix_car.specs.Verified.{judged, judged_visits}
use Rattle.ix_car.specs.Faithful.{IsFaithful, EndFits}
use Rattle.ix_pipeline.specs.declared.sink_state.SinkState.{SinkState}
use Rattle.ix_pipeline.specs.declared.sink_state.SinkState.TheVariants.{Taking, Failed}

-- how a job ends that would end so if no write had failed
abbrev pub end_on : SinkState → End → End
end_on Taking end = end
end_on Failed end = Write

-- how a job ends, of which lack of memory is left
abbrev pub end_of : Result End AllocError → End
end_of result = result_unwrap_or result Memory

-- what a sink was called with, and the pairs that were checked
pub record Told : Type 0 where
  pub calls : Calls
  pub pairs : List (ℕ × ℕ)

-- what this sink was called with, and the pairs that this check has checked
abbrev pub told_by : {S C : Type 0} → (S → Calls) → (C → List (ℕ × ℕ)) → S → C → Told
told_by calls checked sink check = record { calls = calls sink; pairs = checked check }

-- a sink takes a delivery as long as no write failed
abbrev pub CanHand : SinkState → Calls → Type 0
CanHand Taking calls = IsOpen calls.events × (calls.failed ≡ [])
CanHand Failed calls = Unit {0}

-- one visit more was checked
abbrev pub Checks : Visit → Told → Told → Type 0
Checks v old new = new.pairs ≡ old.pairs ++ (v.job, v.seq) ∷ []

-- the events of handling a visit: it is checked, and delivered as long as no write failed; if memory runs out, the sink receives nothing
abbrev pub HandsOn : Blocks → Visit → SinkState → Told → Result SinkState AllocError → Told → Type 0
HandsOn store v Taking old (Ok Taking) new = (new.calls.events ≡ old.calls.events ++ delivery (judged store v) ∷ []) × (new.calls.failed ≡ []) × Checks v old new
HandsOn store v Taking old (Ok Failed) new = (new.calls.events ≡ old.calls.events) × (new.calls.failed ≡ judged store v ∷ []) × Checks v old new
HandsOn store v Failed old (Ok Taking) new = ⊥
HandsOn store v Failed old (Ok Failed) new = (new.calls.events ≡ old.calls.events) × (new.calls.failed ≡ old.calls.failed) × Checks v old new
HandsOn store v state old (Err e) new = (new.calls.events ≡ old.calls.events) × (new.calls.failed ≡ old.calls.failed) × ((new.pairs ≡ old.pairs) ⊎ Checks v old new)

-- the pairs of the first visits of the job with this number
abbrev pub pairs_of : ℕ → ℕ → List (ℕ × ℕ)
pairs_of number zero = []
pairs_of number (suc k) = pairs_of number k ++ (number, k) ∷ []

-- A job was walked and not yet closed: its first visits were delivered, and no fewer were checked, all of them unless memory ran out.
pub record IsWalked (store : Blocks) (number : ℕ) (job : JobMeaning) (end : End) (before : List (ℕ × ℕ)) (told : Told) : Type 0 where
  pub count : ℕ
  pub checks : ℕ
  pub delivered : count ≤ checks
  pub within : checks ≤ length (visits_of store number job)
  pub events : told.calls.events ≡ map delivery (take count (judged_visits store number job))
  pub fits : EndFits end count (judged_visits store number job) (is_over_limit store job) told.calls.failed
  pub pairs : told.pairs ≡ before ++ pairs_of number checks
  pub all : (end ≡ Memory → ⊥) → checks ≡ length (visits_of store number job)
  pub started : end ≡ Start → ⊥

-- A job was exported, and so many of its visits checked: its sink's calls are faithful to it, and no more were delivered.
pub record IsExported (store : Blocks) (number : ℕ) (job : JobMeaning) (end : End) (calls : Calls) (checks : ℕ) : Type 0 where
  pub faithful : IsFaithful store number job end calls
  pub delivered : faithful.count ≤ checks
  pub within : checks ≤ length (visits_of store number job)
  pub all : (end ≡ Memory → ⊥) → checks ≡ length (visits_of store number job)
  pub started : end ≡ Start → ⊥

-- the pairs are those of before, and then those of the job
abbrev pub Exports : Blocks → ℕ → JobMeaning → End → Calls → List (ℕ × ℕ) → List (ℕ × ℕ) → Type 0
Exports store number job end calls old new = (checks : ℕ) × IsExported store number job end calls checks × (new ≡ old ++ pairs_of number checks)

-- a delivery is taken, or its write fails, as long as none has failed; if memory runs out, the sink receives nothing, and after a failed write there is none
abbrev pub Delivers : Delivery → SinkState → Calls → Result SinkState AllocError → Calls → Type 0
Delivers d Taking old (Ok Taking) new = (new.events ≡ old.events ++ delivery d ∷ []) × (new.failed ≡ [])
Delivers d Taking old (Ok Failed) new = (new.events ≡ old.events) × (new.failed ≡ d ∷ [])
Delivers d Failed old (Ok Taking) new = ⊥
Delivers d Failed old (Ok Failed) new = (new.events ≡ old.events) × (new.failed ≡ old.failed)
Delivers d Taking old (Err e) new = (new.events ≡ old.events) × (new.failed ≡ old.failed)
Delivers d Failed old (Err e) new = ⊥

module _ {S About : Type 0} (calls : S → Calls) (guarantee : Fact S About) where
  -- the same of a sink, which keeps what it promised before
  pub record DeliversTo (d : Delivery) (state : SinkState) (sink : S) (result : Result SinkState AllocError) (next : S) : Type 0 where
    pub delivered : Delivers d state (calls sink) result (calls next)
    pub kept : Keeps guarantee sink next

  -- handing on a visit to a check and a sink, which keeps what it promised before
  pub record HandsOnTo {C : Type 0} (checked : C → List (ℕ × ℕ)) (store : Blocks) (v : Visit) (state : SinkState) (sink : S) (check : C) (result : Result SinkState AllocError) (next : S) (later : C) : Type 0 where
    pub handed : HandsOn store v state (told_by calls checked sink check) result (told_by calls checked next later)
    pub kept : Keeps guarantee sink next
