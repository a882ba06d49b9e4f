-- Before the first item.
use Rattle.std.proofs.Common.{◌≡◌, ℕ, ◌+◌, List, [], ◌∷◌, length, Option, Some, None, refl, sym, ◌∙◌, ap, subst, arith}
use Rattle.ix_store.specs.Store.{Blocks}
use Rattle.ix_walk.specs.JobMeaning.{JobMeaning}
use Rattle.ix_car.specs.declared.sink.Delivery.{Delivery}
use Rattle.ix_car.specs.declared.sink.End.{End}
use Rattle.ix_car.specs.Events.{Event, Calls, IsOpen}
use Rattle.ix_car.specs.Headline.{EachFresh}
use Rattle.ix_pipeline.specs.declared.job_progress.JobProgress.{JobProgress}
use Rattle.ix_pipeline.specs.declared.job_progress.Stage.{Stage}
use Rattle.ix_pipeline.specs.declared.job_progress.WalkEnd.{WalkEnd}
use Rattle.ix_pipeline.specs.Numbered.{Numbered, found}
use Rattle.ix_stages.specs.Received.{tally}
use Rattle.ix_stages.specs.Good.{judged_at, over_at}
use Rattle.ix_pipeline.specs.JobProgress.{IsNew, IsSafe, IsSafeAt, IsUnderWay, IsCalm, IsCome, IsComeTo, IsOn, IsCloseKnown}
use Rattle.ix_pipeline.specs.Collected.{AllNew, EachSafe, EachCome}

module _ {S : Type 0} (calls : S → Calls) where
  -- a sink that wasn't called is open, and no write of it has failed
  safe_none : (p : JobProgress) (s : S) → IsNew p → ((calls s).events ≡ []) × ((calls s).failed ≡ []) → IsSafe p (calls s).events (calls s).failed
  safe_none p s new fresh =
      subst (λ (e : Option End). IsSafeAt e p.stage (calls s).events (calls s).failed) (sym new.end)
      (subst (λ (x : Stage). IsSafeAt None x (calls s).events (calls s).failed) (sym new.stage) (subst (λ (l : List Event). IsOpen l) (sym fresh.0) tt, fresh.1))

  -- sink by sink
  pub safe_new : (ps : List JobProgress) (ss : List S) → length ss ≡ length ps → AllNew ps → EachFresh calls ss → EachSafe calls ps ss
  safe_new [] [] e new fresh = tt
  safe_new [] (s ∷ ss) e new fresh = absurd (omega arith)
  safe_new (p ∷ ps) [] e new fresh = absurd (omega arith)
  safe_new (p ∷ ps) (s ∷ ss) e new fresh = (safe_none p s new.0 fresh.0, safe_new ps ss (omega arith) new.1 fresh.1)

  module _ (store : Blocks) (jobs : List JobMeaning) where
    -- an empty ring has no item at any number
    nothing_found : (ring : Numbered (Option Delivery)) (k : ℕ) → ring ≡ record { next = 0; entries = [] } → found ring k ≡ None
    nothing_found ring k e = ap (λ (r : Numbered (Option Delivery)). found r k) e

    -- a new job is under way with no items: its counts are 0
    come_none : (n : ℕ) (p : JobProgress) (s : S) → IsNew p → ((calls s).events ≡ []) × ((calls s).failed ≡ []) → IsCome (judged_at store jobs n) (over_at store jobs n) (tally n []) p (calls s).events (calls s).failed
    come_none n p s new fresh =
        let under : IsUnderWay (judged_at store jobs n) (over_at store jobs n) (tally n []) p (calls s).events (calls s).failed = record {
          arrived = new.arrived;
          closing = subst (λ (w : Option WalkEnd). IsCloseKnown (judged_at store jobs n) (over_at store jobs n) (tally n []) p.out_of_memory w) (sym new.close) (λ k. refl);
          unchecked = λ e k. refl;
          count = 0;
          within = omega arith;
          told = fresh.0;
          checked = λ k lt. absurd (omega arith);
          on = subst (λ (x : Stage). IsOn (judged_at store jobs n) (tally n []) 0 p.out_of_memory p.ring (calls s).failed x) (sym new.stage) (
            sym (ap (λ (r : Numbered (Option Delivery)). r.next) new.ring),
            fresh.1,
            record {
              held = λ k o e. let none : found p.ring k ≡ None = nothing_found p.ring k new.ring in let both : None ≡ Some o = sym none ∙ e in cc;
              missing = λ k low e. refl;
            },
          );
        } in
        let calm : IsCalm p = λ at. nothing_found p.ring p.ring.next new.ring in
        subst (λ (e : Option End). IsComeTo (judged_at store jobs n) (over_at store jobs n) (tally n []) p (calls s).events (calls s).failed e) (sym new.end) (under, calm)

    -- job by job
    pub come_new : (n : ℕ) (ps : List JobProgress) (ss : List S) → length ss ≡ length ps → AllNew ps → EachFresh calls ss → EachCome calls store jobs [] n ps ss
    come_new n [] [] e new fresh = tt
    come_new n [] (s ∷ ss) e new fresh = absurd (omega arith)
    come_new n (p ∷ ps) [] e new fresh = absurd (omega arith)
    come_new n (p ∷ ps) (s ∷ ss) e new fresh = (come_none n p s new.0 fresh.0, come_new (n + 1) ps ss (omega arith) new.1 fresh.1)
