-- One verifier more was started.
use Rattle.std.proofs.Common.{ℕ, List, ap, sym, subst, ◌∙◌}
use Rattle.std.specs.declared.thread.PromisedHandle.{PromisedHandle}
use Rattle.atomic_table.specs.Seated.{TableId}
use Rattle.ix_store.specs.Store.{Blocks}
use Rattle.ix_stages.specs.declared.lanes.LaneOut.{LaneOut}
use Rattle.ix_stages.specs.Lanes.{sent_by, IsLane}
use Rattle.ix_pipeline.specs.declared.verifying.Verifier.{Verifier}
use Rattle.ix_pipeline.specs.declared.verifying.StartFacts.{StartFacts}
use Rattle.ix_pipeline.specs.Verifiers.{IsUnstarted, IsBegan, IsStartOf}

module _ {C : Type 0} (checked : C → List (ℕ × ℕ)) (store : Blocks) (t : TableId) (p : Verifier C × LaneOut) (h : PromisedHandle (Verifier C) (StartFacts C)) (idle : IsUnstarted checked store t p)
    (is : IsStartOf store p.0 h) where
  pub began_with : IsBegan checked store t h
  began_with = record {
    store_is = is.1;
    table = ap (λ (v : Verifier C). v.seat.table) is.0 ∙ idle.table;
    taken = ap (λ (v : Verifier C). v.seat.pass.taken) is.0 ∙ idle.taken;
    sent = ap (λ (v : Verifier C). sent_by v.lane) is.0 ∙ idle.sent;
    unused = ap (λ (v : Verifier C). checked v.check) is.0 ∙ idle.unused;
  }

  pub lane_of : IsLane h.promise.verifier.value.lane p.1
  lane_of = subst (λ (v : Verifier C). IsLane v.lane p.1) (sym is.0) idle.lane
