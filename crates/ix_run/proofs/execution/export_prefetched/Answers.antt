use Rattle.std.proofs.Common.{◌≡◌, length, vec_len, ap, arith}
use Rattle.std.specs.Arc.{arc_value}
use Rattle.ix_pipeline.proofs.Walks.{both, walks_of_both, can_export_as, can_export_again, exported_as, exported_again}
use Rattle.ix_run.proofs.execution.export_prefetched.Goals as goal

pub export_walks-requires-after_bounds : goal.export_walks-requires-after_bounds
export_walks-requires-after_bounds g c = λ κs lives.
    let store = arc_value c.args.input.store.now in
    let jobs = arc_value c.args.input.jobs.now in
    let is = walks_of_both c.deref.result.now store c.deref-2.result.now jobs c.prefetched-walks.result c.prefetched-walks.ensures c.deref.ensures c.deref-2.ensures in
    can_export_as {calls = g.S.Sink.calls} {checked = λ x. x} {sinks = c.args.sinks.now} {checks = c.args.checks} {plan = c.args.input.plan} c.prefetched-walks.result (both store jobs.items) is c.requires

pub export_walks-requires-in-Err-after_bounds : goal.export_walks-requires-in-Err-after_bounds
export_walks-requires-in-Err-after_bounds g c = λ κs lives.
    let store = arc_value c.args.input.store.now in
    let jobs = arc_value c.args.input.jobs.now in
    let is = walks_of_both c.deref-in-Err.result.now store c.deref-in-Err-2.result.now jobs c.new-walks.result c.new-walks.ensures c.deref-in-Err.ensures c.deref-in-Err-2.ensures in
    let back = c.in-Err.ensures.not_started in
    let many : vec_len c.in-Err.field-0.checks ≡ vec_len c.args.checks = omega (arith, c.in-Err.field-0.checks.ok.0, c.args.checks.ok.0, ap length back.1) in
    can_export_as {calls = g.S.Sink.calls} {checked = λ x. x} {sinks = c.export_walks.new.sinks} {checks = c.in-Err.field-0.checks} {plan = c.args.input.plan} c.new-walks.result (both store jobs.items) is
    (can_export_again c.export_walks.new.sinks c.args.checks c.in-Err.field-0.checks back.0 back.1 many c.requires)

pub returns-in-Ok : goal.returns-in-Ok
returns-in-Ok g c =
    let store = arc_value c.args.input.store.now in
    let jobs = arc_value c.args.input.jobs.now in
    exported_as c.prefetched-walks.result (both store jobs.items)
    (walks_of_both c.deref.result.now store c.deref-2.result.now jobs c.prefetched-walks.result c.prefetched-walks.ensures c.deref.ensures c.deref-2.ensures) c.in-Ok.ensures

pub returns-in-Err : goal.returns-in-Err
returns-in-Err g c =
    let store = arc_value c.args.input.store.now in
    let jobs = arc_value c.args.input.jobs.now in
    let is = walks_of_both c.deref-in-Err.result.now store c.deref-in-Err-2.result.now jobs c.new-walks.result c.new-walks.ensures c.deref-in-Err.ensures c.deref-in-Err-2.ensures in
    let back = c.in-Err.ensures.not_started in
    exported_again c.args.sinks.now c.export_walks.new.sinks c.export_walks-in-Err.new.sinks c.args.checks c.in-Err.field-0.checks c.export_walks-in-Err.result back.0 back.1
    (exported_as c.new-walks.result (both store jobs.items) is c.export_walks-in-Err.ensures)
