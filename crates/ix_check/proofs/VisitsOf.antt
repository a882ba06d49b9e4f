-- The visits of a job are visits of its store, each with its number.
use Rattle.std.proofs.Common.{◌≡◌, ℕ, zero, suc, ◌+◌, List, [], ◌∷◌, take, drop, refl, arith, subst}
use Rattle.ix_walk.specs.declared.visit.Visit.{Visit}
use Rattle.ix_store.specs.Store.{Blocks}
use Rattle.ix_walk.specs.JobMeaning.{JobMeaning}
use Rattle.ix_walk.specs.Arrivals.{Arrival}
use Rattle.ix_walk.specs.Visits.{arrivals_of, visit_of, visits_from, visits_of}
use Rattle.ix_check.specs.Visits.{IsVisitOf}

-- a visit of the store, with a job's number and its own
pub record IsVisitAt (store : Blocks) (number place : ℕ) (visit : Visit) : Type 0 where
  pub of_store : IsVisitOf store visit
  pub job : visit.job ≡ number
  pub seq : visit.seq ≡ place

-- a visit is made of what the store has for its CID, and of its number
visit_at : (store : Blocks) (number seq : ℕ) (a : Arrival) → IsVisitAt store number seq (visit_of store number seq a)
visit_at store number seq a = record { of_store = record { block = refl; malformed = refl }; job = refl; seq = refl }

-- the visit at a position has that number
visit_after : (store : Blocks) (number start k : ℕ) (found : List Arrival) (v : Visit) (more : List Visit) → drop k (visits_from store number start found) ≡ v ∷ more → IsVisitAt store number (start + k) v
visit_after store number start k [] v more e = absurd (nothing k e) where
  nothing : (k : ℕ) → drop k [] ≡ v ∷ more → ⊥
  nothing zero e = cc
  nothing (suc k) e = cc
visit_after store number start zero (a ∷ found) v more e =
    let head : visit_of store number start a ≡ v = cc in
    let at : start ≡ start + 0 = omega arith in
    subst (λ n. IsVisitAt store number n v) at (subst (λ w. IsVisitAt store number start w) head (visit_at store number start a))
visit_after store number start (suc k) (a ∷ found) v more e =
    let at : (start + 1) + k ≡ start + suc k = omega arith in
    subst (λ n. IsVisitAt store number n v) at (visit_after store number (start + 1) k found v more e)

-- what comes after the first k visits of a job is its visit with the number k
pub visit_next : (store : Blocks) (number k : ℕ) (job : JobMeaning) (v : Visit) (more : List Visit) → drop k (visits_of store number job) ≡ v ∷ more → IsVisitAt store number k v
visit_next store number k job v more e =
    let at : 0 + k ≡ k = omega arith in
    subst (λ n. IsVisitAt store number n v) at (visit_after store number 0 k (take job.limit (arrivals_of store job)) v more e)
