-- What a verifier's thread does.
use Rattle.std.specs.Prelude.{◌≡◌, ℕ, List}
use Rattle.atomic_table.specs.Seated.{TableId}
use Rattle.ix_store.specs.Store.{Blocks}
use Rattle.ix_stages.specs.Course.{IsCourseOf}
use Rattle.ix_stages.specs.Lanes.{SameIn}
use Rattle.ix_stages.specs.Verified.{HasVerified}
use Rattle.ix_pipeline.specs.declared.verifying.Verifier.{Verifier}

module _ {C : Type 0} where
  -- its seat is one of this queue, whose course has visits of this store
  abbrev pub CanWork : Blocks → TableId → Verifier C → Type 0
  CanWork store t v = (v.seat.table ≡ t) × IsCourseOf store v.seat.pass.course

  -- it gives back the same seat and the same end of its lane, and has verified what it took
  abbrev pub HasWorked : (C → List (ℕ × ℕ)) → Blocks → Verifier C → Verifier C → Type 0
  HasWorked checked store v w = (w.seat.table ≡ v.seat.table) × SameIn v.lane w.lane × HasVerified checked store v.seat w.seat v.lane w.lane v.check w.check
