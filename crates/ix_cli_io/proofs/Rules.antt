-- The decision at the close of a job, over the skips that count.
use Rattle.std.proofs.Common.{◌≡◌, ◌∙◌, ap, refl, sym, arith, ℕ, suc, List, [], ◌∷◌, length}
use Rattle.std.proofs.lemmas.Bool.Decides.{nat_tests}
use Rattle.std.specs.Prelude.{Bool, true, false, not, cond, ◌&&◌, ◌||◌, ◌==◌, Option}
use Rattle.std.specs.List.{list_any, filter}
use Rattle.ix_walk.specs.JobMeaning.{JobMeaning}
use Rattle.ix_car.specs.declared.archive.Skip.{Skip}
use Rattle.ix_car.specs.declared.sink.End.{End}
use Rattle.ix_verdict.specs.declared.allow_missing.AllowMissing.{AllowMissing}
use Rattle.ix_jobs.specs.declared.results.JobResult.{JobResult}
use Rattle.ix_jobs.specs.Missing.{is_root}
use Rattle.ix_jobs.specs.Report.{is_done}
use Rattle.ix_run.specs.Complete.{is_complete}
use Rattle.ix_cli_io.specs.Naming.{counts, is_whole}

-- a list with an element isn't empty, whatever else is asked
some_left : (b : Bool) (n : ℕ) → false ≡ (b && (suc n == 0))
some_left true n = let e : (suc n == 0) ≡ false = grind (arith, nat_tests) in sym e
some_left false n = refl

module _ {X : Type 0} (p q : X → Bool) where
  any_step : (c : Bool) (x : X) (xs : List X) → list_any p (filter q xs) ≡ list_any (λ y. q y && p y) xs
      → list_any p (cond c (x ∷ filter q xs) (filter q xs)) ≡ ((c && p x) || list_any (λ y. q y && p y) xs)
  any_step true x xs h = ap (λ b. p x || b) h
  any_step false x xs h = h

  -- one of the elements that are kept passes
  pub any-filter : (xs : List X) → list_any p (filter q xs) ≡ list_any (λ y. q y && p y) xs
  any-filter [] = refl
  any-filter (x ∷ xs) = any_step (q x) x xs (any-filter xs)

  none_step : (c : Bool) (x : X) (xs : List X) → not (list_any q xs) ≡ (not (list_any p (filter q xs)) && (length (filter q xs) == 0))
      → not (c || list_any q xs) ≡ (not (list_any p (cond c (x ∷ filter q xs) (filter q xs))) && (length (cond c (x ∷ filter q xs) (filter q xs)) == 0))
  none_step true x xs h = some_left (not (p x || list_any p (filter q xs))) (length (filter q xs))
  none_step false x xs h = h

  -- no element is kept: then none that is kept passes
  pub none-filter : (xs : List X) → not (list_any q xs) ≡ (not (list_any p (filter q xs)) && (length (filter q xs) == 0))
  none-filter [] = refl
  none-filter (x ∷ xs) = none_step (q x) x xs (none-filter xs)

module _ (allowed : Option AllowMissing) (job : JobMeaning) (end : End) (skips : List Skip) (any : Bool) (told : JobResult) where
  -- a job that is done with no root skipped, at its close and in its report
  pub complete_at_close : is_done end ≡ true → any ≡ list_any (λ (s : Skip). counts allowed job s && is_root job s.cid) skips
      → told.end ≡ end → told.skips.items ≡ filter (counts allowed job) skips → not any ≡ is_complete job told
  complete_at_close done is same left =
      let root = λ (s : Skip). is_root job s.cid in
      ap not (is ∙ sym (any-filter root (counts allowed job) skips))
      ∙ ap (λ (l : List Skip). not (list_any root l)) (sym left)
      ∙ ap (λ (b : Bool). b && not (list_any root told.skips.items)) (sym (ap is_done same ∙ done))

  -- the same with nothing skipped
  pub whole_at_close : is_done end ≡ true → any ≡ list_any (counts allowed job) skips
      → told.end ≡ end → told.skips.items ≡ filter (counts allowed job) skips → not any ≡ is_whole job told
  whole_at_close done is same left =
      let root = λ (s : Skip). is_root job s.cid in
      ap not is ∙ none-filter root (counts allowed job) skips
      ∙ ap (λ (l : List Skip). not (list_any root l) && (length l == 0)) (sym left)
      ∙ ap (λ (b : Bool). (b && not (list_any root told.skips.items)) && (length told.skips.items == 0)) (sym (ap is_done same ∙ done))
