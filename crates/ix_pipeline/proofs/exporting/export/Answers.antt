use Rattle.std.proofs.Common.{refl}
use Rattle.std.specs.Arc.{arc_value}
use Rattle.ix_pipeline.proofs.Walks.{both, walks_of_both, can_export_as, exported_as}
use Rattle.ix_pipeline.proofs.exporting.export.Goals as goal

pub export_gated-requires-after_bounds : goal.export_gated-requires-after_bounds
export_gated-requires-after_bounds g c = λ κs lives.
    let is = walks_of_both c.deref.result.now (arc_value c.args.store.now) c.deref-2.result.now (arc_value c.args.jobs.now) c.new-walks.result c.new-walks.ensures c.deref.ensures c.deref-2.ensures in
    can_export_as {calls = g.S.Sink.calls} {checked = g.C.Check.checked} {sinks = c.args.sinks.now} {checks = c.args.checks} {plan = c.args.plan} c.new-walks.result (both (arc_value c.args.store.now) (arc_value c.args.jobs.now).items) is
    (record { one_each = c.requires.sinks; fresh = c.requires.fresh; unused = c.requires.unused; few = c.requires.jobs; planned = c.requires.plan })

pub returns : goal.returns
returns g c =
    let is = walks_of_both c.deref.result.now (arc_value c.args.store.now) c.deref-2.result.now (arc_value c.args.jobs.now) c.new-walks.result c.new-walks.ensures c.deref.ensures c.deref-2.ensures in
    let e = exported_as c.new-walks.result (both (arc_value c.args.store.now) (arc_value c.args.jobs.now).items) is c.export_gated.ensures in
    record { delivered = e.delivered; archived = e.archived; started = e.started; facts = e.facts; checked = e.each_checked; not_started = e.not_started }
