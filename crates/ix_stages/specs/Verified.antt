-- What a verifier does.
use Rattle.std.specs.Prelude.{◌≡◌, ℕ, List, [], ◌∷◌, ◌++◌, All}
use Rattle.ix_store.specs.Store.{Blocks}
use Rattle.ix_check.specs.Visits.{IsVisitOf}
use Rattle.ix_stages.specs.declared.item.Item.{Item}
use Rattle.ix_stages.specs.declared.item.Item.TheVariants as item
use Rattle.ix_stages.specs.declared.verdicted.Verdicted.{Verdicted}
use Rattle.ix_stages.specs.declared.pass_view.PassView.{PassView}
use Rattle.ix_stages.specs.declared.lanes.LaneIn.{LaneIn}
use Rattle.ix_stages.specs.Lanes.{sent_by}
use Rattle.ix_stages.specs.Received.{pairs_of}
use Rattle.ix_stages.specs.Seats.{SeatView}
use Rattle.ix_stages.specs.Sent.{SentFor}
use Rattle.ix_stages.specs.Course.{Allowed}

-- the item, if it is a visit, says of its CID what the store says: the block, and whether it is malformed
abbrev pub IsItemOf : Blocks → Item → Type 0
IsItemOf store (item.Visit v) = IsVisitOf store v
IsItemOf store (item.Close j n end) = Unit {0}
IsItemOf store item.Stop = Unit {0}

-- the item is a Stop
abbrev pub IsStop : Item → Type 0
IsStop (item.Visit v) = ⊥
IsStop (item.Close j n end) = ⊥
IsStop item.Stop = Unit {0}

-- the pass after it took these items
abbrev pub took : PassView → List Item → PassView
took v t = record { blank = v.blank; parts = v.parts; course = v.course; all = v.all; maker = v.maker; made = v.made; job = v.job; put = v.put; taken = v.taken ++ t; puts = v.puts; takens = v.takens }

-- What a verifier has done: what its pass took, what it sent on its lane, and which pairs its check has checked; before and
-- after.
pub record Passed (store : Blocks) (v w : PassView) (sent sent' : List Verdicted) (checked checked' : List (ℕ × ℕ)) : Type 0 where
  pub taken : List Item
  pub passed : List Verdicted
  pub took_is : w ≡ took v taken
  pub allowed : All (Allowed v.course) taken
  pub answers : SentFor store taken passed
  pub sent_is : sent' ≡ sent ++ passed
  pub checked_is : checked' ≡ checked ++ pairs_of passed

-- The items that it has taken end with their only Stop.
pub record IsVerified (store : Blocks) (v w : PassView) (sent sent' : List Verdicted) (checked checked' : List (ℕ × ℕ)) : Type 0 where
  pub did : Passed store v w sent sent' checked checked'
  pub before : List Item
  pub ends : did.taken ≡ before ++ item.Stop ∷ []
  pub one : All (λ x. IsStop x → ⊥) before

-- the seat took such items, and lane and check grew by the answers to them
abbrev pub HasVerified : {C : Type 0} → (C → List (ℕ × ℕ)) → Blocks → SeatView → SeatView → LaneIn → LaneIn → C → C → Type 0
HasVerified checked store seat seat' lane lane' check check' = IsVerified store seat.pass seat'.pass (sent_by lane) (sent_by lane') (checked check) (checked check')
