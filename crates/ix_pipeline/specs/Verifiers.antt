-- What the caller knows of verifiers.
use Rattle.std.specs.Prelude.{◌≡◌, ℕ, List, [], ◌∷◌}
use Rattle.std.specs.declared.thread.PromisedHandle.{PromisedHandle}
use Rattle.atomic_table.specs.Seated.{TableId}
use Rattle.ix_store.specs.Store.{Blocks}
use Rattle.ix_stages.specs.declared.lanes.LaneIn.{LaneIn}
use Rattle.ix_stages.specs.declared.lanes.LaneOut.{LaneOut}
use Rattle.ix_stages.specs.Course.{IsCourseOf}
use Rattle.ix_stages.specs.Lanes.{sent_by, received_by, IsLane, SameIn}
use Rattle.ix_pipeline.specs.declared.verifying.Verifier.{Verifier}
use Rattle.ix_pipeline.specs.declared.verifying.StartFacts.{StartFacts}

module _ {C : Type 0} (checked : C → List (ℕ × ℕ)) (store : Blocks) (t : TableId) where
  -- a verifier that wasn't started yet, and has done nothing, with the receiver of its lane
  pub record IsUnstarted (p : Verifier C × LaneOut) : Type 0 where
    pub table : p.0.seat.table ≡ t
    pub course : IsCourseOf store p.0.seat.pass.course
    pub taken : p.0.seat.pass.taken ≡ []
    pub sent : sent_by p.0.lane ≡ []
    pub lane : IsLane p.0.lane p.1
    pub received : received_by p.1 ≡ []
    pub unused : checked p.0.check ≡ []

  -- one that was started with this store, when it had done nothing
  pub record IsBegan (h : PromisedHandle (Verifier C) (StartFacts C)) : Type 0 where
    pub store_is : h.promise.store.value ≡ store
    pub table : h.promise.verifier.value.seat.table ≡ t
    pub taken : h.promise.verifier.value.seat.pass.taken ≡ []
    pub sent : sent_by h.promise.verifier.value.lane ≡ []
    pub unused : checked h.promise.verifier.value.check ≡ []

module _ {C : Type 0} where
  -- this verifier was started with this store
  abbrev pub IsStartOf : Blocks → Verifier C → PromisedHandle (Verifier C) (StartFacts C) → Type 0
  IsStartOf store v h = (h.promise.verifier.value ≡ v) × (h.promise.store.value ≡ store)

  -- verifier by verifier, the caller's end of its lane
  abbrev pub EachOut : List (PromisedHandle (Verifier C) (StartFacts C)) → List LaneOut → Type 0
  EachOut [] [] = Unit {0}
  EachOut (h ∷ hs) (o ∷ os) = IsLane h.promise.verifier.value.lane o × EachOut hs os
  EachOut hs os = ⊥

  -- verifier by verifier, the end of its lane that came back
  abbrev pub EachBack : List (PromisedHandle (Verifier C) (StartFacts C)) → List LaneIn → Type 0
  EachBack [] [] = Unit {0}
  EachBack (h ∷ hs) (i ∷ is) = SameIn h.promise.verifier.value.lane i × EachBack hs is
  EachBack hs is = ⊥
