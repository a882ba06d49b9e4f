-- What contracts see of the seats.
use Rattle.std.specs.Prelude.{◌≡◌, ℕ, ◌+◌, ◌-◌, ◌≤◌, ◌<◌, Bool, true, false, List, [], ◌∷◌, ◌++◌, length, Some, None}
use Rattle.atomic_table.specs.Seated.{TableId}
use Rattle.ix_car.specs.declared.sink.End.{End}
use Rattle.ix_stages.specs.declared.item.Item.{Item}
use Rattle.ix_stages.specs.declared.item.Item.TheVariants as item
use Rattle.ix_stages.specs.declared.course.JobVisits.{JobVisits}
use Rattle.ix_stages.specs.declared.pass_view.PassView.{PassView}
use Rattle.ix_stages.specs.Items.{is_of, seq_of, numbers, Rises}
use Rattle.ix_stages.specs.Course.{Allowed, MayClose, course_visits, opened}
use Rattle.ix_stages.specs.PassViews.{after_put, after_take}

-- a seat: which queue it is of, and what its pass has put and taken
pub record SeatView : Type 0 where
  pub table : TableId
  pub pass : PassView

-- a producer's seat: also its job, the number that it puts next, and whether it has put the close
pub record JobView : Type 0 where
  pub table : TableId
  pub pass : PassView
  pub job : ℕ
  pub next : ℕ
  pub closed : Bool

-- no seat was joined into it
pub record IsAlone (v : PassView) : Type 0 where
  pub live : v.blank ≡ false
  pub lists : (v.puts ≡ []) × (v.takens ≡ [])

-- the pass of the seat of job j, which has put n visits
pub record IsJobPass (v : PassView) (j n : ℕ) (closed : Bool) : Type 0 where
  pub alone : IsAlone v
  pub part : v.parts ≡ 1
  pub maker : v.maker ≡ false
  pub job : v.job ≡ Some j
  pub taken : v.taken ≡ []
  pub small : (n ≤ length (course_visits v.course j)) × (length (course_visits v.course j) ≤ 4294967295)
  pub while_open : closed ≡ false → v.put ≡ opened v.course j n
  pub once_closed : closed ≡ true → (e : End) × (v.put ≡ opened v.course j n ++ item.Close j n e ∷ []) × MayClose v.course j n e

-- the pass of a consumer's seat, which has put nothing
pub record IsTakePass (v : PassView) : Type 0 where
  pub alone : IsAlone v
  pub part : v.parts ≡ 1
  pub maker : v.maker ≡ false
  pub job : v.job ≡ None
  pub put : v.put ≡ []

-- the maker, after all seats are made; it puts Stops
pub record IsStopPass (v : PassView) : Type 0 where
  pub alone : IsAlone v
  pub part : v.parts ≡ 1
  pub job : v.job ≡ None
  pub taken : v.taken ≡ []

-- the pass that other seats were joined into
pub record IsRestPass (v : PassView) : Type 0 where
  pub live : v.blank ≡ false
  pub part : 0 < v.parts

-- The seat takes the item: the course allows it, and its number is above all that the seat took of its job.
pub record IsTake (v : PassView) (x : Item) (w : PassView) : Type 0 where
  pub pass : w ≡ after_take v x
  pub allowed : Allowed v.course x
  pub above : (j : ℕ) → is_of j x ≡ true → Rises 0 (seq_of x) (numbers j v.taken)

-- a seat of the same queue has taken the item
abbrev pub HasTaken : SeatView → Item → SeatView → Type 0
HasTaken old x new = (new.table ≡ old.table) × IsTake old.pass x new.pass

-- the item is the next of the seat's job, and the course allows it
abbrev pub IsNext : JobView → Item → Type 0
IsNext s x = (is_of s.job x ≡ true) × (seq_of x ≡ s.next) × Allowed s.pass.course x

-- the seat's next number after the item
abbrev pub next_after : ℕ → Item → ℕ
next_after n (item.Visit v) = n + 1
next_after n (item.Close j k e) = n
next_after n item.Stop = n

-- whether the seat is closed after the item
abbrev pub closed_after : Item → Bool
closed_after (item.Visit v) = false
closed_after (item.Close j k e) = true
closed_after item.Stop = false

-- the seat of the same job, in the same queue
abbrev pub IsSameSeat : JobView → JobView → Type 0
IsSameSeat old new = (new.table ≡ old.table) × (new.job ≡ old.job)

-- the seat has put the item
pub record HasPut (old : JobView) (x : Item) (new : JobView) : Type 0 where
  pub pass : new.pass ≡ after_put old.pass x
  pub next : new.next ≡ next_after old.next x
  pub closed : new.closed ≡ closed_after x

-- the maker after k seats
abbrev pub maker_pass : List JobVisits → ℕ → ℕ → PassView
maker_pass c all k = record { blank = false; parts = all - k; course = c; all = all; maker = true; made = k; job = None; put = []; taken = []; puts = []; takens = [] }

-- the pass of the seat of job j, as it is made
abbrev pub new_job_pass : List JobVisits → ℕ → ℕ → PassView
new_job_pass c all j = record { blank = false; parts = 1; course = c; all = all; maker = false; made = 0; job = Some j; put = []; taken = []; puts = []; takens = [] }

-- the pass of a consumer's seat, as it is made
abbrev pub new_take_pass : List JobVisits → ℕ → PassView
new_take_pass c all = record { blank = false; parts = 1; course = c; all = all; maker = false; made = 0; job = None; put = []; taken = []; puts = []; takens = [] }

-- the seat of job j, as it is made
abbrev pub new_job : TableId → List JobVisits → ℕ → ℕ → JobView
new_job t c all j = record { table = t; pass = new_job_pass c all j; job = j; next = 0; closed = false }

-- a consumer's seat, as it is made
abbrev pub new_taker : TableId → List JobVisits → ℕ → SeatView
new_taker t c all = record { table = t; pass = new_take_pass c all }

-- the stopper's seat, as it is made
abbrev pub new_stop : TableId → List JobVisits → ℕ → SeatView
new_stop t c all = record { table = t; pass = maker_pass c all (all - 1) }

-- the number of seats of a queue with so many jobs and consumers
abbrev pub seat_count : ℕ → ℕ → ℕ
seat_count jobs takers = jobs + takers + 1
