-- The number of an arrival is its place, so the verified traversal is what is kept of the visits.
use Rattle.std.proofs.Common.{◌≡◌, ℕ, zero, suc, ◌+◌, true, false, List, [], ◌∷◌, ◌++◌, take, drop, map, refl, sym, ◌∙◌, ap, eq-eqb, take-append-drop, ltb-false, length, Bool}
use Rattle.std.specs.Prelude.{Option, Some, None, if◌then◌else◌, ◌&&◌, ◌==◌}
use Rattle.std.proofs.lemmas.Bool.{and_from}
use Rattle.std.proofs.lemmas.List.{take_all, take-map}
use Rattle.std.proofs.lemmas.Slice.Eq.{bytes_eq-Decides}
use Rattle.ix_selector.specs.Enters.{Step, key, nth, Path}
use Rattle.ix_selector.specs.IsEntered.{is_entered}
use Rattle.ix_store.specs.Store.{Blocks, value_of}
use Rattle.ix_walk.specs.JobMeaning.{JobMeaning}
use Rattle.ix_walk.specs.Arrivals.{Arrival}
use Rattle.ix_walk.specs.Visits.{believed, arrivals_of, visit_of, visits_from, is_over_limit}
use Rattle.ix_check.specs.Verdict.{passes}
use Rattle.ix_car.specs.declared.sink.Delivery.{Delivery}
use Rattle.ix_car.specs.Kept.{is_below, kept_after, kept}
use Rattle.ix_car.specs.Verified.{is_good, judged, judged_visits, all_judged, verified, verified_arrivals, same_step, same_path, number_among}
use Rattle.ix_car.proofs.Pruning.{kept_arrivals, pruning, kept-take}
use Rattle.ix_car.proofs.RisingKeys.{value_of-rising}
use Rattle.ix_selector.specs.Behind.{residual_at, same_residual}
use Rattle.ix_walk.specs.Once.{once_arrivals}
use Rattle.ix_car.proofs.KeptOnce.{once-all_kept}
use Rattle.ix_car.proofs.Distinct.{agree, DiffersFromAll, AreDistinct, from_distinct}

-- ---- numbers

-- a step is the same as itself
same_step-refl : (t : Step) → same_step t t ≡ true
same_step-refl (key k) = (bytes_eq-Decides k k).1 refl
same_step-refl (nth n) = eq-eqb n n refl

-- and so is a path
same_path-refl : (p : Path) → same_path p p ≡ true
same_path-refl [] = refl
same_path-refl (t ∷ p) = and_from (same_step t t) (same_path p p) (same_step-refl t) (same_path-refl p)

-- and a visit
agree-refl : (a : Arrival) → agree a a ≡ true
agree-refl a =
    and_from (a.root == a.root) (same_path a.path a.path && (a.depth == a.depth)) (eq-eqb a.root a.root refl)
    (and_from (same_path a.path a.path) (a.depth == a.depth) (same_path-refl a.path) (eq-eqb a.depth a.depth refl))

-- the visit of an arrival with its verdict and this number
abbrev judged_at : Blocks → ℕ → ℕ → Arrival → Delivery
judged_at store number seq a = judged store (visit_of store number seq a)

-- those with the numbers that they have among all
abbrev numbered : Blocks → ℕ → (Arrival → ℕ) → List Arrival → List Delivery
numbered store number number_of xs = map (λ a. judged_at store number (number_of a) a) xs

-- a visit with which no other agrees is found at its own position
numbered-behind : (store : Blocks) (number n : ℕ) (x : Arrival) (xs ys : List Arrival) → DiffersFromAll ys x → numbered store number (number_among n (x ∷ xs)) ys ≡ numbered store number (number_among (n + 1) xs) ys
numbered-behind store number n x xs [] differs = refl
numbered-behind store number n x xs (y ∷ ys) differs =
    λ i. judged_at store number (if differs.0 i then n else number_among (n + 1) xs y) y ∷ numbered-behind store number n x xs ys differs.1 i

-- where none agree, the number is the place
numbered-all : (store : Blocks) (number n : ℕ) (xs : List Arrival) → AreDistinct xs → map (judged store) (visits_from store number n xs) ≡ numbered store number (number_among n xs) xs
numbered-all store number n [] distinct = refl
numbered-all store number n (x ∷ xs) distinct =
    λ i. judged_at store number (if sym (agree-refl x) i then n else number_among (n + 1) xs x) x ∷ (numbered-all store number (n + 1) xs distinct.1 ∙ sym (numbered-behind store number n x xs xs distinct.0)) i

-- the visits of a job are distinct in root, path and depth
believed-distinct : (store : Blocks) (job : JobMeaning) → AreDistinct (believed store job)
believed-distinct store job = from_distinct (is_entered job.selector) (value_of store) (value_of-rising store) job.limit 0 job.roots

-- ---- the visits of a job

-- the first visits are those of the first arrivals
visits_from-take : (store : Blocks) (number n m : ℕ) (xs : List Arrival) → visits_from store number n (take m xs) ≡ take m (visits_from store number n xs)
visits_from-take store number n zero xs = refl
visits_from-take store number n (suc m) [] = refl
visits_from-take store number n (suc m) (a ∷ xs) = ap (λ l. visit_of store number n a ∷ l) (visits_from-take store number (n + 1) m xs)

-- the visits within the limit are the first of all
judged_visits-take : (store : Blocks) (number : ℕ) (job : JobMeaning) → judged_visits store number job ≡ take job.limit (all_judged store number job)
judged_visits-take store number job =
    ap (map (judged store)) (visits_from-take store number 0 job.limit (arrivals_of store job))
    ∙ sym (take-map (judged store) job.limit (visits_from store number 0 (arrivals_of store job)))

-- and all of them, if the limit isn't exceeded
pub judged_visits-all : (store : Blocks) (number : ℕ) (job : JobMeaning) → is_over_limit store job ≡ false → judged_visits store number job ≡ all_judged store number job
judged_visits-all store number job within =
    ap (λ l. map (judged store) (visits_from store number 0 l)) (take_all job.limit (arrivals_of store job) (ltb-false job.limit (length (arrivals_of store job)) within))

-- what is kept of the visits is a beginning of what is kept of all
kept-visits : (store : Blocks) (number : ℕ) (job : JobMeaning) → (m : ℕ) × (kept (judged_visits store number job) ≡ take m (kept (all_judged store number job)))
kept-visits store number job =
    let t = kept-take (λ d. d.visit.depth) (λ d. passes d.verdict) None job.limit (all_judged store number job) in
    (t.0, ap kept (judged_visits-take store number job) ∙ t.1)

-- ---- what is kept

-- the verified arrivals are what is kept of the believed ones
kept-believed : (store : Blocks) (job : JobMeaning) → kept_arrivals (is_good store) None (believed store job) ≡ verified_arrivals store job
kept-believed store job = pruning (is_good store) (is_entered job.selector) (value_of store) job.limit 0 job.roots

-- numbers don't matter to what is kept
kept-numbered : (store : Blocks) (number : ℕ) (number_of : Arrival → ℕ) (cut : Option ℕ) (xs : List Arrival)
    → kept_after (λ d. d.visit.depth) (λ d. passes d.verdict) cut (numbered store number number_of xs) ≡ numbered store number number_of (kept_arrivals (is_good store) cut xs)
kept-numbered store number number_of cut [] = refl
kept-numbered store number number_of cut (a ∷ xs) =
    let behind : Option ℕ → List Delivery = λ c. kept_after (λ d. d.visit.depth) (λ d. passes d.verdict) c (numbered store number number_of xs) in
    let next : Option ℕ = if is_good store a.cid then None else Some a.depth in
    elim (is_below cut a.depth) as (λ b. (if b then behind cut else judged_at store number (number_of a) a ∷ behind next) ≡ numbered store number number_of (if b then kept_arrivals (is_good store) cut xs else a ∷ kept_arrivals (is_good store) next xs))
    [ true ↦ kept-numbered store number number_of cut xs | false ↦ ap (λ l. judged_at store number (number_of a) a ∷ l) (kept-numbered store number number_of next xs) ]

-- the arrivals of a job that goes in at every one, and of one that goes in once
pub arrivals-by : (store : Blocks) (job : JobMeaning) (once : Bool) → job.once ≡ once → arrivals_of store job ≡ (if once then once_arrivals store job (residual_at job.selector) same_residual else believed store job)
arrivals-by store job once e = ap (λ (b : Bool). if b then once_arrivals store job (residual_at job.selector) same_residual else believed store job) e

-- at every arrival
kept-every : (store : Blocks) (number : ℕ) (job : JobMeaning) → kept (map (judged store) (visits_from store number 0 (believed store job))) ≡ numbered store number (number_among 0 (believed store job)) (verified_arrivals store job)
kept-every store number job =
    let number_of : Arrival → ℕ = number_among 0 (believed store job) in
    ap kept (numbered-all store number 0 (believed store job) (believed-distinct store job))
    ∙ kept-numbered store number number_of None (believed store job)
    ∙ ap (numbered store number number_of) (kept-believed store job)

-- what is kept of all is the verified traversal
pub kept-all : (store : Blocks) (number : ℕ) (job : JobMeaning) → kept (all_judged store number job) ≡ verified store number job
kept-all store number job =
    let each : List Delivery = numbered store number (number_among 0 (believed store job)) (verified_arrivals store job) in
    (elim job.once as (λ b. job.once ≡ b → kept (all_judged store number job) ≡ (if b then all_judged store number job else each)) [
      | true ↦ λ e.
          let same = arrivals-by store job true e in
          ap (λ l. kept (map (judged store) (visits_from store number 0 l))) same ∙ once-all_kept (residual_at job.selector) same_residual store number job ∙ ap (λ l. map (judged store) (visits_from store number 0 l)) (sym same)
      | false ↦ λ e. ap (λ l. kept (map (judged store) (visits_from store number 0 l))) (arrivals-by store job false e) ∙ kept-every store number job
    ]) refl

-- what is kept of the visits is the verified traversal, where the limit cut nothing
pub kept-verified : (store : Blocks) (number : ℕ) (job : JobMeaning) → is_over_limit store job ≡ false → kept (judged_visits store number job) ≡ verified store number job
kept-verified store number job within = ap kept (judged_visits-all store number job within) ∙ kept-all store number job

-- and else its beginning
pub kept-beginning : (store : Blocks) (number : ℕ) (job : JobMeaning) → (more : List Delivery) × (kept (judged_visits store number job) ++ more ≡ verified store number job)
kept-beginning store number job =
    let first = kept-visits store number job in
    (drop first.0 (kept (all_judged store number job)), ap (λ l. l ++ drop first.0 (kept (all_judged store number job))) first.1 ∙ take-append-drop first.0 (kept (all_judged store number job)) ∙ kept-all store number job)
