-- What is made before the first thread.
use Rattle.std.specs.Prelude.{◌≡◌, ℕ, List, All, length, map, vec_len}
use Rattle.ix_store.specs.Store.{Blocks}
use Rattle.ix_walk.specs.JobMeaning.{JobMeaning}
use Rattle.ix_stages.specs.Items.{count_up}
use Rattle.ix_stages.specs.Queue.{table_of}
use Rattle.ix_stages.specs.Walking.{IsReady}
use Rattle.ix_pipeline.specs.declared.preparing.Prepared.{Prepared}
use Rattle.ix_pipeline.specs.Caller.{IsCaller}

-- how many walkers there are
abbrev pub walker_count : {C : Type 0} → Prepared C → ℕ
walker_count p = vec_len p.caller.claimers

-- how many verifiers there are
abbrev pub verifier_count : {C : Type 0} → Prepared C → ℕ
verifier_count p = vec_len p.caller.unstarted

-- a queue, claims to the seat of each job in turn, verifiers with a lane each, and room for the export of these jobs
pub record IsPrepared {C : Type 0} (checked : C → List (ℕ × ℕ)) (store : Blocks) (jobs : List JobMeaning) (p : Prepared C) : Type 0 where
  pub seats : All (IsReady store jobs (table_of p.queue)) p.claims.values
  pub each : map (λ s. s.job) p.claims.values ≡ count_up 0 (length jobs)
  pub caller : IsCaller checked store jobs (table_of p.queue) p.claims p.caller
