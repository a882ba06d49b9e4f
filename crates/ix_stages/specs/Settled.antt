-- What is known once seats are joined.
use Rattle.std.specs.Prelude.{◌≡◌, ◌+◌, ℕ, List, ◌++◌, length, map}
use Rattle.crossbeam_queue.specs.Passes.{Pass, view, IsSamePass}
use Rattle.ix_stages.specs.declared.item.Item.{Item}
use Rattle.ix_stages.specs.declared.pass_view.PassView.{PassView}
use Rattle.ix_stages.specs.PassViews.{after_join, all_put, all_taken}
use Rattle.ix_stages.specs.Items.{concat}
use Rattle.ix_stages.specs.Seats.{JobView, SeatView}
use Rattle.ix_stages.specs.Totals.{total}

-- v joined these passes, in this order: their lists are kept apart
pub record Settles (v : PassView) (passes : List PassView) (w : PassView) : Type 0 where
  pub live : w.blank ≡ v.blank
  pub parts : w.parts ≡ v.parts + length passes
  pub course : (w.course ≡ v.course) × (w.all ≡ v.all)
  pub own : (w.put ≡ v.put) × (w.taken ≡ v.taken)
  pub puts : w.puts ≡ v.puts ++ map (λ u. u.put) passes
  pub takens : w.takens ≡ v.takens ++ map (λ u. u.taken) passes

-- a pass joined what another knows, and is still the same pass of the same queue
abbrev pub Absorbs : Pass Item PassView → PassView → Pass Item PassView → Type 0
Absorbs old v new = IsSamePass old new × (view new ≡ after_join (view old) v)

-- the same for what several passes know, in this order
abbrev pub AbsorbsAll : Pass Item PassView → List PassView → Pass Item PassView → Type 0
AbsorbsAll old passes new = IsSamePass old new × Settles (view old) passes (view new)

-- what the passes of these seats know
abbrev pub passes_of : List JobView → List SeatView → List PassView
passes_of jobs takers = map (λ s. s.pass) jobs ++ map (λ s. s.pass) takers

-- if all seats were joined, all that was put was taken, as often as it was put
abbrev pub IsAllTaken : PassView → Type 0
IsAllTaken v = v.parts ≡ v.all → (h : Item → ℕ) → total h (all_put v) ≡ total h (all_taken v)

-- what these seats have put, seat by seat
abbrev pub put_by : List JobView → List Item
put_by seats = concat (map (λ s. s.pass.put) seats)

-- what these seats have taken, seat by seat
abbrev pub taken_by : List SeatView → List Item
taken_by seats = concat (map (λ s. s.pass.taken) seats)
