-- The result of one job that runs alone.
use Rattle.std.proofs.Common.{◌≡◌, ℕ, List, [], ◌∷◌, ◌++◌, subst}
use Rattle.std.specs.Prelude.{Option}
use Rattle.ix_store.specs.Store.{Blocks}
use Rattle.ix_walk.specs.JobMeaning.{JobMeaning}
use Rattle.ix_car.specs.Archive.{Known}
use Rattle.ix_jobs.specs.declared.results.JobResult.{JobResult}
use Rattle.ix_run.specs.Run.{IsRun, EachRun}

-- a list of one element ends with it
single : {A : Type 0} (x y : A) (front : List A) → x ∷ [] ≡ front ++ y ∷ [] → x ≡ y
single x y [] e = cc
single x y (z ∷ []) e = absurd cc
single x y (z ∷ w ∷ zs) e = absurd cc

module _ {W : Type 0} (told : W → Option (List ℕ)) (known : Known) (store : Blocks) (job : JobMeaning) (before : W) (result : JobResult) (after : W) where
  -- the last result and the last writer are those of the one job
  of_one : (front_r results : List JobResult) (front_w afters : List W) → results ≡ front_r ++ result ∷ [] → afters ≡ front_w ++ after ∷ []
      → EachRun told known store 0 (job ∷ []) (before ∷ []) results afters → IsRun told known store 0 job before result after
  of_one front_r (r ∷ []) front_w (w ∷ []) er ew run =
      subst (λ x. IsRun told known store 0 job before x after) (single r result front_r er) (subst (λ y. IsRun told known store 0 job before r y) (single w after front_w ew) run.0)
  of_one front_r (r ∷ s ∷ rs) front_w (w ∷ ws) er ew run = absurd run.1
  of_one front_r (r ∷ rs) front_w [] er ew run = absurd run
  of_one front_r [] front_w ws er ew run = absurd run
  of_one front_r (r ∷ []) front_w (w ∷ v ∷ ws) er ew run = absurd run.1

  -- the same where the lists are those of a call
  pub alone : (jobs : List JobMeaning) (befores afters front_w : List W) (results front_r : List JobResult) → jobs ≡ job ∷ [] → befores ≡ before ∷ [] → EachRun told known store 0 jobs befores results afters
      → results ≡ front_r ++ result ∷ [] → afters ≡ front_w ++ after ∷ [] → IsRun told known store 0 job before result after
  alone jobs befores afters front_w results front_r one_job one_before ran last_r last_w =
      of_one front_r results front_w afters last_r last_w
      (subst (λ js. EachRun told known store 0 js (before ∷ []) results afters) one_job (subst (λ bs. EachRun told known store 0 jobs bs results afters) one_before ran))
