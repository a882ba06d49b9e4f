-- The seats of a new queue.
use Rattle.std.proofs.Common.{◌≡◌, ℕ, zero, suc, List, [], ◌∷◌, All, length, map, replicate, sym, ◌∙◌, ap, subst, refl, arith}
use Rattle.atomic_table.specs.Seated.{TableId}
use Rattle.std.proofs.lemmas.List.Elements.{All-replicate}
use Rattle.ix_store.specs.Store.{Blocks}
use Rattle.ix_walk.specs.JobMeaning.{JobMeaning}
use Rattle.ix_stages.specs.declared.course.JobVisits.{JobVisits}
use Rattle.ix_stages.specs.Course.{IsCourseOf, course_of}
use Rattle.ix_stages.specs.Items.{count_up}
use Rattle.ix_stages.specs.Seats.{JobView, SeatView, new_job, new_taker}
use Rattle.ix_stages.specs.Walking.{IsReady}
use Rattle.ix_pipeline.proofs.Lists.{all_count}

-- a seat of the queue, whose course has visits of this store, that has taken nothing
abbrev pub IsIdle : Blocks → TableId → SeatView → Type 0
IsIdle store t s = (s.table ≡ t) × IsCourseOf store s.pass.course × (s.pass.taken ≡ [])

module _ (store : Blocks) (jobs : List JobMeaning) (t : TableId) (course : List JobVisits) (all : ℕ) (same : course ≡ course_of store jobs) where
  -- the new seats of so many jobs are ready, as each is new
  pub seats_ready : (n : ℕ) (seats : List JobView) → n ≡ length jobs → seats ≡ map (new_job t course all) (count_up 0 n) → All (IsReady store jobs t) seats
  seats_ready n seats many is =
      subst (All (IsReady store jobs t)) (sym is)
      (all_count (IsReady store jobs t) (new_job t course all) 0 n (length jobs) (omega (arith, many)) (λ j lt. record { table = refl; job = lt; begins = (refl, refl); course = same }))

  -- the seats of a run of numbers have these job numbers
  jobs_counted : (n k : ℕ) → map (λ s. s.job) (map (new_job t course all) (count_up n k)) ≡ count_up n k
  jobs_counted n zero = refl
  jobs_counted n (suc k) = ap (λ (l : List ℕ). n ∷ l) (jobs_counted (suc n) k)

  -- one for each job, in their order
  pub seats_each : (n : ℕ) (seats : List JobView) → n ≡ length jobs → seats ≡ map (new_job t course all) (count_up 0 n) → map (λ s. s.job) seats ≡ count_up 0 (length jobs)
  seats_each n seats many is = ap (λ (l : List JobView). map (λ s. s.job) l) is ∙ (jobs_counted 0 n ∙ ap (count_up 0) many)

  -- new takers have taken nothing
  pub takers_idle : (n : ℕ) (takers : List SeatView) → IsCourseOf store (course_of store jobs) → takers ≡ replicate n (new_taker t course all) → All (IsIdle store t) takers
  takers_idle n takers of is =
      subst (All (IsIdle store t)) (sym is) (All-replicate (IsIdle store t) n (new_taker t course all) (refl, subst (λ (k : List JobVisits). IsCourseOf store k) (sym same) of, refl))
