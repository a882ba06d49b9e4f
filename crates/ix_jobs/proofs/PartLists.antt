-- The list of the jobs so far, of which a window is kept.
use Rattle.std.proofs.Common.{◌≡◌, ◌∙◌, sym, ap, ℕ, ◌+◌, ◌-◌, ◌<◌, ◌≤◌, List, [], ◌∷◌, ◌++◌, length, take, drop, length-drop, length-append, arith, ⊎_elim, refl, true, false}
use Rattle.std.specs.Prelude.{slice_range, Ok, Err}
use mathlib.Core.Logic.{◌⊎◌}
use Rattle.std.proofs.lemmas.Bool.{cases_lt, le-leb, lt-leb}
use Rattle.std.proofs.lemmas.List.{take_all, drop_all, drop-append-le, take-append-le}
use Rattle.ix_walk.specs.JobMeaning.{JobMeaning}
use Rattle.ix_jobs.specs.declared.fault.JobErrorKind.TheVariants.{Repeated, TooMany}
use Rattle.ix_jobs.specs.Jobs.{joined, is_taken}

module _ {A : Type 0} (xs : List A) (x : A) (start end : ℕ) where
  -- one element more, which is within the window
  pub window-grows : start ≤ length xs → length xs < end → slice_range (xs ++ x ∷ []) start end ≡ slice_range xs start end ++ x ∷ []
  window-grows from below =
      let many : length (drop start xs) ≡ length xs - start = length-drop start xs in
      let all : take (end - start) (drop start xs) ≡ drop start xs = take_all (end - start) (drop start xs) (omega (arith, from, below, many)) in
      let more : length (drop start xs ++ x ∷ []) ≡ length (drop start xs) + 1 = length-append (drop start xs) (x ∷ []) in
      ap (take (end - start)) (drop-append-le start xs (x ∷ []) from)
      ∙ take_all (end - start) (drop start xs ++ x ∷ []) (omega (arith, from, below, many, more))
      ∙ ap (λ l. l ++ x ∷ []) (sym all)

  -- a job before the part adds nothing to it
  before-window : length xs < start → slice_range (xs ++ x ∷ []) start end ≡ slice_range xs start end
  before-window below =
      let more : length (xs ++ x ∷ []) ≡ length xs + 1 = length-append xs (x ∷ []) in
      ap (take (end - start)) (drop_all start (xs ++ x ∷ []) (omega (arith, below, more)) ∙ sym (drop_all start xs (omega (arith, below))))

  -- a job after the part adds nothing to it
  behind-window : start ≤ length xs → end ≤ length xs → slice_range (xs ++ x ∷ []) start end ≡ slice_range xs start end
  behind-window from above =
      let many : length (drop start xs) ≡ length xs - start = length-drop start xs in
      ap (take (end - start)) (drop-append-le start xs (x ∷ []) from)
      ∙ take-append-le (end - start) (drop start xs) (x ∷ []) (omega (arith, from, above, many))

  -- one element more, which isn't
  pub window-stays : (length xs < start) ⊎ (end ≤ length xs) → slice_range (xs ++ x ∷ []) start end ≡ slice_range xs start end
  window-stays outside = ⊎_elim before-window (λ above. ⊎_elim before-window (λ from. behind-window from above) (cases_lt (length xs) start)) outside

-- what a job answers that would join those before it
pub joined-taken : (most : ℕ) (before : List JobMeaning) (job : JobMeaning) → is_taken before job.name ≡ true → joined most before job ≡ Err Repeated
joined-taken most before job taken = rw taken refl

-- a full list rejects a job with a free name
pub joined-full : (most : ℕ) (before : List JobMeaning) (job : JobMeaning) → is_taken before job.name ≡ false → most ≤ length before → joined most before job ≡ Err TooMany
joined-full most before job free full = rw (free, le-leb most (length before) full) refl

-- a list with room takes a job with a free name
pub joined-free : (most : ℕ) (before : List JobMeaning) (job : JobMeaning) → is_taken before job.name ≡ false → length before < most → joined most before job ≡ Ok (before ++ job ∷ [])
joined-free most before job free few = rw (free, lt-leb most (length before) few) refl
