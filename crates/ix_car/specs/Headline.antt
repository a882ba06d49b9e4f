-- What an export leaves: each sink's calls, archives and checks.
use Rattle.std.specs.Prelude.{◌≡◌, ◌⊎◌, ℕ, ◌+◌, ◌<◌, List, [], ◌∷◌, ◌++◌, length, Option, Some, None, slice_get, Contains, All}
use Rattle.std.specs.List.{AllByRecursion}
use Rattle.ix_store.specs.Store.{Blocks}
use Rattle.ix_walk.specs.JobMeaning.{JobMeaning}
use Rattle.ix_walk.specs.Visits.{visits_of}
use Rattle.ix_car.specs.declared.sink.Delivery.{Delivery}
use Rattle.ix_car.specs.declared.sink.End.{End}
use Rattle.ix_car.specs.declared.sink.End.TheVariants.{Memory, Start}
use Rattle.ix_car.specs.Events.{Calls, delivery}
use Rattle.ix_car.specs.Faithful.{IsFaithful}
use Rattle.ix_car.specs.Archived.{IsArchived}

-- no pair occurs twice
abbrev pub IsEachOnce : List (ℕ × ℕ) → Type 0
IsEachOnce [] = Unit {0}
IsEachOnce (p ∷ ps) = (Contains ps p → ⊥) × IsEachOnce ps

module _ {S : Type 0} (calls : S → Calls) where
  -- job by job, from a number on: the sink's calls are faithful to the job, and close with its end
  abbrev pub EachDelivered : Blocks → ℕ → List JobMeaning → List End → List S → Type 0
  EachDelivered store n [] [] [] = Unit {0}
  EachDelivered store n (j ∷ js) (e ∷ es) (s ∷ ss) = IsFaithful store n j e (calls s) × EachDelivered store (n + 1) js es ss
  EachDelivered store n js es ss = ⊥

  -- job by job: the archive is that of the job, or a beginning of it
  abbrev pub EachArchived : Blocks → ℕ → List JobMeaning → List End → List S → Type 0
  EachArchived store n [] [] [] = Unit {0}
  EachArchived store n (j ∷ js) (e ∷ es) (s ∷ ss) = IsArchived store n j e (calls s) × EachArchived store (n + 1) js es ss
  EachArchived store n js es ss = ⊥

  -- nothing was delivered or failed so far
  abbrev pub EachFresh : List S → Type 0
  EachFresh sinks = AllByRecursion (λ s. ((calls s).events ≡ []) × ((calls s).failed ≡ [])) sinks

-- what a sink may guarantee of itself for good: over what it was made with, a store, a job and the bytes that its writer had at
-- first
abbrev pub Fact : Type 0 → Type 0 → Type 1
Fact S About = S → About → Blocks → JobMeaning → Option (List ℕ) → Type 0

-- what a sink guaranteed before, it guarantees now
abbrev pub Keeps : {S About : Type 0} → Fact S About → S → S → Type 0
Keeps {S} {About} guarantee s t = (about : About) (store : Blocks) (job : JobMeaning) (first : Option (List ℕ)) → guarantee s about store job first → guarantee t about store job first

-- sink by sink
abbrev pub EachKept : {S About : Type 0} → Fact S About → List S → List S → Type 0
EachKept guarantee [] [] = Unit {0}
EachKept guarantee (s ∷ ss) (t ∷ ts) = Keeps guarantee s t × EachKept guarantee ss ts
EachKept guarantee ss ts = ⊥

-- a check has checked nothing so far
abbrev pub IsUnusedCheck : {C : Type 0} → (C → List (ℕ × ℕ)) → C → Type 0
IsUnusedCheck checked c = checked c ≡ []

-- no check has checked anything so far
abbrev pub EachUnused : {C : Type 0} → (C → List (ℕ × ℕ)) → List C → Type 0
EachUnused checked checks = AllByRecursion (λ c. IsUnusedCheck checked c) checks

-- the pairs that checks have checked, one check after the other
abbrev pub checked_by : {C : Type 0} → (C → List (ℕ × ℕ)) → List C → List (ℕ × ℕ)
checked_by checked [] = []
checked_by checked (c ∷ cs) = checked c ++ checked_by checked cs

-- the number of visits of the job with this number, or 0 if there is no such job
abbrev pub visit_count : Blocks → List JobMeaning → ℕ → ℕ
visit_count store jobs n = count (slice_get jobs n) where
  count : Option JobMeaning → ℕ
  count None = 0
  count (Some job) = length (visits_of store n job)

-- no job ended for lack of memory or of threads
abbrev pub AllWalked : List End → Type 0
AllWalked ends = (Contains ends Memory → ⊥) × (Contains ends Start → ⊥)

-- the job with this number ended neither for lack of memory nor of threads
abbrev pub IsWalkedAt : List End → ℕ → Type 0
IsWalkedAt ends job = (slice_get ends job ≡ Some Memory → ⊥) × (slice_get ends job ≡ Some Start → ⊥)

-- The pairs that were checked: none twice, each that of a visit, among them those of all deliveries, all of each job that was
-- walked, and so all if every job was.
pub record IsCheckedOnce {S : Type 0} (calls : S → Calls) (store : Blocks) (jobs : List JobMeaning) (ends : List End) (sinks : List S) (pairs : List (ℕ × ℕ)) : Type 0 where
  pub once : IsEachOnce pairs
  pub within : (job seq : ℕ) → Contains pairs (job, seq) → seq < visit_count store jobs job
  pub delivered : (s : S) (d : Delivery) → Contains sinks s → Contains (calls s).events (delivery d) → Contains pairs (d.visit.job, d.visit.seq)
  pub every : (job seq : ℕ) → IsWalkedAt ends job → seq < visit_count store jobs job → Contains pairs (job, seq)
  pub all : AllWalked ends → (job seq : ℕ) → seq < visit_count store jobs job → Contains pairs (job, seq)

-- no job ended for lack of threads
abbrev pub NoneIsStart : List End → Type 0
NoneIsStart ends = Contains ends Start → ⊥

-- no job ended for lack of threads, or every job did
abbrev pub NoneOrAllStart : List End → Type 0
NoneOrAllStart ends = NoneIsStart ends ⊎ All (λ end. end ≡ Start) ends
