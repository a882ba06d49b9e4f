-- A visit is checked and delivered.
use Rattle.std.proofs.Common.{◌≡◌, ℕ, List, [], ◌∷◌, ◌++◌, Result, Ok, Err, subst, inr}
use Rattle.std.specs.declared.alloc.AllocError.{AllocError}
use Rattle.ix_walk.specs.declared.visit.Visit.{Visit}
use Rattle.ix_store.specs.Store.{Blocks}
use Rattle.ix_verdict.specs.declared.verdict.Verdict.{Verdict}
use Rattle.ix_check.specs.Verdict.{verdict_of}
use Rattle.ix_car.specs.Events.{Calls}
use Rattle.ix_car.specs.Verified.{judged}
use Rattle.ix_pipeline.specs.declared.sink_state.SinkState.{SinkState}
use Rattle.ix_pipeline.specs.declared.sink_state.SinkState.TheVariants.{Taking, Failed}
use Rattle.ix_pipeline.specs.Progress.{HandsOn, Delivers}

-- a visit that is checked, and delivered with its verdict, is handed on
pub hands_of : (store : Blocks) (v : Visit) (d : Verdict) (state : SinkState) (r : Result SinkState AllocError) (old new : Calls) (pairs more : List (ℕ × ℕ))
    → d ≡ verdict_of store v.cid → more ≡ pairs ++ (v.job, v.seq) ∷ [] → Delivers (record { visit = v; verdict = d }) state old r new
    → HandsOn store v state (record { calls = old; pairs = pairs }) r (record { calls = new; pairs = more })
hands_of store v d state r old new pairs more right checked h =
    by_state state r (subst (λ (x : Verdict). Delivers (record { visit = v; verdict = x }) state old r new) right h) where
      by_state : (state : SinkState) (r : Result SinkState AllocError) → Delivers (judged store v) state old r new
          → HandsOn store v state (record { calls = old; pairs = pairs }) r (record { calls = new; pairs = more })
      by_state Taking (Ok Taking) h = (h.0, h.1, checked)
      by_state Taking (Ok Failed) h = (h.0, h.1, checked)
      by_state Failed (Ok Taking) h = absurd h
      by_state Failed (Ok Failed) h = (h.0, h.1, checked)
      by_state Taking (Err e) h = (h.0, h.1, inr checked)
      by_state Failed (Err e) h = absurd h
