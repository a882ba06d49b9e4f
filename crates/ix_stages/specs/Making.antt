-- How the seats of a queue are made: the pass that makes them, and what it makes.
use Rattle.std.specs.Prelude.{◌≡◌, ◌<◌, ℕ, false, List, Option, map, replicate}
use Rattle.crossbeam_queue.specs.declared.array_queue.Doing.{Doing}
use Rattle.crossbeam_queue.specs.declared.array_queue.Slotted.{Slotted}
use Rattle.crossbeam_queue.specs.Passes.{Pass, view, IsPassOf, IsSamePass}
use Rattle.ix_stages.specs.declared.course.JobVisits.{JobVisits}
use Rattle.ix_stages.specs.declared.pass_view.PassView.{PassView}
use Rattle.ix_stages.specs.declared.item.Item.{Item}
use Rattle.ix_stages.specs.declared.parts.QueueParts.{QueueParts}
use Rattle.ix_stages.specs.Items.{count_up}
use Rattle.ix_stages.specs.Queue.{table_of}
use Rattle.ix_stages.specs.Seats.{JobView, SeatView, maker_pass, new_job, new_taker, new_stop, seat_count}

-- the same pass with the same course, and so many seats made
abbrev pub HasMade : Pass Item PassView → Pass Item PassView → ℕ → Type 0
HasMade old new made = IsSamePass old new × (view new ≡ maker_pass (view old).course (view old).all made)

module _ {Q A : Type 0} (ruled : Slotted (Option Item) (Doing Item PassView) Q A) (p : Pass Item PassView) where
  -- the pass makes the seats of the queue, and has made so many
  abbrev pub IsMaker : ℕ → Type 0
  IsMaker made = IsPassOf ruled p × (view p ≡ maker_pass (view p).course (view p).all made)

  -- the seat of the job with this number, as the pass makes it
  abbrev pub job_made : ℕ → JobView
  job_made job = new_job ruled.table.shared.table_id (view p).course (view p).all job

  -- a consumer's seat, as the pass makes it
  abbrev pub taker_made : SeatView
  taker_made = new_taker ruled.table.shared.table_id (view p).course (view p).all

  -- a pass of the queue with at least one seat
  abbrev pub IsLivePass : Type 0
  IsLivePass = IsPassOf ruled p × ((view p).blank ≡ false) × (0 < (view p).parts)

-- a queue with its seats, none of which has put or taken anything: one for each job of the course, in order, so many
-- consumers', and the stopper's
pub record IsNewQueue (course : List JobVisits) (count verifiers : ℕ) (q : QueueParts) : Type 0 where
  pub jobs : q.jobs.items ≡ map (new_job (table_of q.queue) course (seat_count count verifiers)) (count_up 0 count)
  pub takers : q.takers.items ≡ replicate verifiers (new_taker (table_of q.queue) course (seat_count count verifiers))
  pub stop : q.stop ≡ new_stop (table_of q.queue) course (seat_count count verifiers)
