-- Skips that are absent, and those that are left.
use Rattle.std.proofs.Common.{◌≡◌, ◌⊎◌, inl, inr, ℕ, suc, ◌+◌, Bool, true, false, not, cond, List, [], ◌∷◌, ◌++◌, length, refl, sym, ap, subst, ◌∙◌, arith, append_assoc, append-nil}
use Rattle.std.specs.List.{filter}
use Rattle.ix_walk.specs.JobMeaning.{JobMeaning}
use Rattle.ix_verdict.specs.declared.allow_missing.AllowMissing.{AllowMissing}
use Rattle.ix_jobs.specs.declared.results.JobResult.{JobResult}
use Rattle.ix_jobs.specs.Missing.{absent_count, IsReported, EachReported}

on_test : {X : Type 0} (b : Bool) (x : X) (xs ys : List X) (n : ℕ) → length xs + length ys ≡ n → length (cond b (x ∷ xs) xs) + length (cond (not b) (x ∷ ys) ys) ≡ suc n
on_test true x xs ys n e = omega (arith, e)
on_test false x xs ys n e = omega (arith, e)

-- each element passes a test or doesn't
pub parted : {X : Type 0} (p : X → Bool) (xs : List X) → length (filter p xs) + length (filter (λ x. not (p x)) xs) ≡ length xs
parted p [] = refl
parted p (x ∷ xs) = on_test (p x) x (filter p xs) (filter (λ y. not (p y)) xs) (length xs) (parted p xs)

module _ (which : AllowMissing) (jobs : List JobMeaning) (told : List JobResult) where
  -- with the results of the jobs that remain, those of all jobs are there
  abbrev pub Remains : List JobMeaning → List JobResult → List JobResult → List ℕ → Type 0
  Remains later rest left counts = (ls : List JobResult) (ns : List ℕ) → EachReported which later rest ls ns → EachReported which jobs told (left ++ ls) (counts ++ ns)

  -- one job more
  pub one_more : (now later : List JobMeaning) (here rest left more : List JobResult) (counts many : List ℕ) (job : JobMeaning) (r l : JobResult) (n : ℕ) → now ≡ job ∷ later → here ≡ r ∷ rest → more ≡ left ++ l ∷ [] → many ≡ counts ++ n ∷ [] → IsReported which job r l → n ≡ absent_count which job r → Remains now here left counts → Remains later rest more many
  one_more now later here rest left more counts many job r l n first second pushed counted one count before ls ns after =
      let step : EachReported which now here (l ∷ ls) (n ∷ ns) = subst (λ a. EachReported which a here (l ∷ ls) (n ∷ ns)) (sym first) (subst (λ b. EachReported which (job ∷ later) b (l ∷ ls) (n ∷ ns)) (sym second) (one, count, after)) in
      let results : more ++ ls ≡ left ++ l ∷ ls = ap (λ a. a ++ ls) pushed ∙ append_assoc left (l ∷ []) ls in
      let numbers : many ++ ns ≡ counts ++ n ∷ ns = ap (λ a. a ++ ns) counted ∙ append_assoc counts (n ∷ []) ns in
      subst (λ a. EachReported which jobs told a (many ++ ns)) (sym results) (subst (λ b. EachReported which jobs told (left ++ l ∷ ls) b) (sym numbers) (before (l ∷ ls) (n ∷ ns) step))

  no_results : (later : List JobMeaning) → EachReported which later [] [] []
  no_results [] = (refl, refl)
  no_results (job ∷ later) = (refl, refl)

  none_left : (later : List JobMeaning) (rest : List JobResult) → (later ≡ []) ⊎ (rest ≡ []) → EachReported which later rest [] []
  none_left later rest (inl none) = subst (λ a. EachReported which a rest [] []) (sym none) (refl, refl)
  none_left later rest (inr none) = subst (λ b. EachReported which later b [] []) (sym none) (no_results later)

  -- where no pair is left, all are there
  pub all_taken : (later : List JobMeaning) (rest left : List JobResult) (counts : List ℕ) → (later ≡ []) ⊎ (rest ≡ []) → Remains later rest left counts → EachReported which jobs told left counts
  all_taken later rest left counts over before =
      let all : EachReported which jobs told (left ++ []) (counts ++ []) = before [] [] (none_left later rest over) in
      subst (λ a. EachReported which jobs told a counts) (append-nil left) (subst (λ b. EachReported which jobs told (left ++ []) b) (append-nil counts) all)
