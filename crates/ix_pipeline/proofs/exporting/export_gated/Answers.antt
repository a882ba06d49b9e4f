use Rattle.std.proofs.Common.{rules, List, subst, refl}
use Rattle.ix_store.specs.Store.{Blocks}
use Rattle.ix_walk.specs.JobMeaning.{JobMeaning}
use Rattle.ix_pipeline.proofs.Kept.{kept_same}
use Rattle.ix_pipeline.specs.Prepared.{IsPrepared}
use Rattle.ix_pipeline.proofs.Exported.{archived_of_delivered}
use Rattle.ix_pipeline.proofs.exporting.export_gated.Goals as goal

pub returns-in-Err : goal.returns-in-Err
returns-in-Err g c = record { delivered = tt; archived = tt; started = tt; facts = kept_same g.S.Sink.guarantee c.args.sinks.now; each_checked = tt; not_started = (refl, search rules) }

pub flow-outcome-requires-clause-prepared : goal.flow-outcome-requires-clause-prepared
flow-outcome-requires-clause-prepared g c κs lives =
    subst (λ (js : List JobMeaning). IsPrepared g.C.Check.checked c.args.walks.now.store js c.in-Ok.prepared) c.jobs-jobs.ensures
    (subst (λ (s : Blocks). IsPrepared g.C.Check.checked s c.jobs-jobs.result.now.items c.in-Ok.prepared) c.store-store.ensures c.in-Ok.ensures.prepared)

pub returns : goal.returns
returns g c =
    let flown = c.flow-outcome.ensures in
    let walks = c.args.walks.now in
    record {
      delivered = flown.delivered;
      archived = archived_of_delivered g.S.Sink.calls c.faithful_is_archived.ensures walks.store 0 walks.jobs c.flow-outcome.result.ends.items c.flow-outcome.new.sinks flown.delivered;
      started = flown.started;
      facts = flown.kept;
      each_checked = flown.checks;
      not_started = tt;
    }
