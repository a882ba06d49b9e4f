use Rattle.ix_pipeline.proofs.Finished.{from_all, delivered_from, started_from, checked_from}
use Rattle.ix_pipeline.proofs.law.collected_is_exported.Goals as goal

pub returns : goal.returns
returns g c = λ collector sinks ends each store jobs got w.
    let calls = g.S.Sink.calls in
    let all = collector.jobs.items in
    let come = w.collected w.good w.sized in
    record {
      none = come.0;
      delivered = delivered_from calls store jobs got 0 jobs all sinks ends (from_all calls store jobs got) w.sized come.1 each;
      checked = checked_from calls store jobs got all sinks ends w.good w.sized come.1 each;
      started = started_from calls store jobs got 0 all sinks ends come.1 each;
    }
