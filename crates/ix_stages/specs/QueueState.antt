-- The rule of the visit queue, for any number of seats.
use Rattle.std.specs.Prelude.{◌≡◌, ℕ, ◌+◌, ◌≤◌, ◌<◌, ◌⊎◌, true, false, List, [], ◌∷◌, length, All, Some}
use mathlib.Core.Option.{some}
use lib.ListN.{get_elem?}
use Rattle.ix_stages.specs.declared.item.Item.{Item}
use Rattle.ix_stages.specs.declared.course.JobVisits.{JobVisits}
use Rattle.ix_stages.specs.declared.pass_view.PassView.{PassView}
use Rattle.ix_stages.specs.Items.{numbers, count_up, Rises}
use Rattle.ix_stages.specs.Course.{Allowed, IsPut, times, ends}
use Rattle.ix_stages.specs.PassViews.{blank, all_put, all_taken}
use Rattle.ix_stages.specs.Totals.{total}

-- a pass among the views. For each job, head is the number that is taken next, and left is how many of its items the queue
-- holds
pub record Fits (course : List JobVisits) (all : ℕ) (head left : ℕ → ℕ) (count port : ℕ) (v : PassView) : Type 0 where
  pub named : v.blank ≡ false
  pub course_is : 0 < v.parts → (v.course ≡ course) × (v.all ≡ all)
  pub idle : v.parts ≡ 0 → (all_put v ≡ []) × (all_taken v ≡ [])
  -- each job has one seat, and it knows all that the job has put
  pub seat : (j : ℕ) → v.job ≡ Some j → (port ≡ j + 2) × (length v.put ≡ head j + left j) × IsPut course j v.put
  -- one pass makes the seats
  pub maker : v.maker ≡ true → (port ≡ 0) × (count ≡ v.made + 2) × ((j : ℕ) → v.made ≤ j → head j + left j ≡ 0)
  -- the numbers of a job rise in each taken list, and are those that have left the queue
  pub rises : (j : ℕ) → Rises 0 (head j) (numbers j v.taken)
  pub joined : (j k : ℕ) (t : List Item) → get_elem? v.takens k ≡ some t → Rises 0 (head j) (numbers j t)
  -- whatever it has taken was allowed
  pub took : All (Allowed course) (all_taken v)

-- the invariant once the course is named
pub record Running (items : List Item) (views : List PassView) : Type 0 where
  pub course : List JobVisits
  pub all : ℕ
  pub head : ℕ → ℕ
  pub left : ℕ → ℕ
  pub allowed : All (Allowed course) items
  -- the numbers of a job in the queue are consecutive, and end with the last put
  pub ordered : (j : ℕ) → numbers j items ≡ count_up (head j) (left j)
  pub counted : total (λ v. v.parts) views ≡ all
  -- each item that was put is in the queue or was taken, as often as it was put
  pub balanced : (h : Item → ℕ) → total (λ v. total h (all_put v)) views ≡ total (λ v. total h (all_taken v)) views + total h items
  -- no number of a job is put twice
  pub once : (j n : ℕ) → total (λ v. times j n (all_put v)) views ≤ 1
  pub fresh : (j n : ℕ) → head j + left j ≤ n → total (λ v. times j n (all_put v)) views ≡ 0
  -- nothing of a job is put after its close
  pub shut : (j k : ℕ) → 0 < total (λ v. ends j k (all_put v)) views → (head j + left j ≡ k + 1) × ((port : ℕ) (v : PassView) → get_elem? views port ≡ some v → v.job ≡ Some j → 0 < ends j k v.put)
  pub fits : (port : ℕ) (v : PassView) → get_elem? views port ≡ some v → Fits course all head left (length views) port v

-- the invariant of the queue: before the course is named there is one blank pass and nothing else
abbrev pub IsQueueState : List Item → List PassView → Type 0
IsQueueState items views = ((items ≡ []) × (views ≡ blank ∷ [])) ⊎ Running items views
