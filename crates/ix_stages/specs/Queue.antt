-- What contracts see of the queue.
use Rattle.std.specs.Prelude.{◌≡◌, false}
use Rattle.atomic_table.specs.Seated.{TableId}
use Rattle.ix_stages.specs.declared.item.Item.{Item}
use Rattle.ix_stages.specs.declared.queue.VisitQueue.{VisitQueue}
use Rattle.ix_stages.specs.Seats.{IsNext, JobView}

-- which queue it is
abbrev pub table_of : VisitQueue → TableId
table_of q = q.ruled.table.shared.table_id

-- a seat or a rest with this table is one of the queue's
abbrev pub IsOfQueue : VisitQueue → TableId → Type 0
IsOfQueue q t = t ≡ table_of q

-- the item is the next of this seat of the queue, whose job isn't closed
pub record MayPut (q : VisitQueue) (s : JobView) (x : Item) : Type 0 where
  pub queue : IsOfQueue q s.table
  pub going : s.closed ≡ false
  pub next : IsNext s x
