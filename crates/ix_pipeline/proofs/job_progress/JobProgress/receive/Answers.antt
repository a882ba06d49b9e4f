use Rattle.std.proofs.Common.{rules, ◌≡◌, refl, true, None}
use Rattle.std.specs.Prelude.{is_some}
use Rattle.ix_pipeline.proofs.Closings.{no_item_after, under_way}
use Rattle.ix_pipeline.proofs.job_progress.JobProgress.receive.Goals as goal

pub returns-then-is_some-clause-received : goal.returns-then-is_some-clause-received
returns-then-is_some-clause-received g c = λ all over t u fine i w.
    let closed : is_some c.args.self.now.end ≡ true = search rules in
    absurd (no_item_after all over c.args.item t u c.args.self.now (g.S.Sink.calls c.args.sink.now).events (g.S.Sink.calls c.args.sink.now).failed fine i w closed)

pub returns-then-not-accept-clause-received : goal.returns-then-not-accept-clause-received
returns-then-not-accept-clause-received g c = λ all over t u fine i w.
    let unclosed : c.args.self.now.end ≡ None = search rules in
    let noted = c.accept.ensures.noted.under_way all over t u (g.S.Sink.calls c.args.sink.now).events (g.S.Sink.calls c.args.sink.now).failed fine i (under_way all over t c.args.self.now (g.S.Sink.calls c.args.sink.now).events (g.S.Sink.calls c.args.sink.now).failed unclosed w) in
    let yes : c.accept.result ≡ true = noted.0 in
    absurd (search rules)

pub returns-clause-received : goal.returns-clause-received
returns-clause-received g c = λ all over t u fine i w.
    let unclosed : c.args.self.now.end ≡ None = search rules in
    let noted = c.accept.ensures.noted.under_way all over t u (g.S.Sink.calls c.args.sink.now).events (g.S.Sink.calls c.args.sink.now).failed fine i (under_way all over t c.args.self.now (g.S.Sink.calls c.args.sink.now).events (g.S.Sink.calls c.args.sink.now).failed unclosed w) in
    let delivered = c.deliver.ensures.delivered all over u noted.1 in
    (refl, c.finish.ensures.finished all over u fine delivered.0 delivered.1)
