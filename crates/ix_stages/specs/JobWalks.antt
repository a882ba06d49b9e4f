-- The walks of the jobs of an export, as contracts see them.
use Rattle.std.specs.Prelude.{◌≡◌, ℕ, List, slice_get, Some, refl}
use Rattle.std.specs.Coded.{Coded, code_by, coded×, coded_ℕ, coded_list}
use Rattle.ix_store.specs.Store.{Blocks}
use Rattle.ix_walk.specs.JobMeaning.{JobMeaning, coded_job}
use Rattle.ix_prefetch.specs.Expansions.{ExpansionTable}

-- the blocks and the jobs
pub record WalksMeaning : Type 0 where
  pub store : Blocks
  pub jobs : List JobMeaning

-- their code is that of the pair of both
abbrev pub coded_walks : Coded WalksMeaning
coded_walks =
    code_by (Blocks × List JobMeaning) (coded× (coded_list (coded× (coded_list coded_ℕ) (coded_list coded_ℕ))) (coded_list coded_job)) (λ w. (w.store, w.jobs)) (λ p. record { store = p.0; jobs = p.1 }) (λ _. refl)

-- each table is of this store and of the job at its place
abbrev pub AreTablesOf : Blocks → List JobMeaning → List ExpansionTable → Type 0
AreTablesOf store jobs tables = (n : ℕ) (t : ExpansionTable) → slice_get tables n ≡ Some t → (t.store ≡ store) × (slice_get jobs n ≡ Some t.job)
