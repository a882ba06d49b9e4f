-- What an export is given.
use Rattle.std.specs.Prelude.{ℕ, ◌≤◌}
use Rattle.ix_pipeline.specs.declared.plan.Plan.{Plan}

-- 1 to 64 walkers, and as many verifiers; the queue and each lane have room for 1 to 4096
pub record IsPlan (plan : Plan) (verifiers : ℕ) : Type 0 where
  pub walkers : (1 ≤ plan.walkers) × (plan.walkers ≤ 64)
  pub checks : (1 ≤ verifiers) × (verifiers ≤ 64)
  pub queue : (1 ≤ plan.queue) × (plan.queue ≤ 4096)
  pub lane : (1 ≤ plan.lane) × (plan.lane ≤ 4096)
