use Rattle.std.proofs.Common.{ℕ, ◌+◌, ◌<◌, ◌≤◌, ◌∙◌, ap, subst}
use Rattle.ix_pipeline.proofs.Kept.{kept_same}
use Rattle.ix_pipeline.proofs.Exported.{through_none, through_more, archived_of_delivered, all_delivered, all_started, all_checked}
use Rattle.ix_pipeline.proofs.plain.export_plain.Goals as goal

pub returns-in_err-ends-clause-facts : goal.returns-in_err-ends-clause-facts
returns-in_err-ends-clause-facts g c = kept_same g.S.Sink.guarantee c.args.sinks.now

pub loop-number-init : goal.loop-number-init
loop-number-init g c = record {
  through = through_none g.S.Sink.calls g.S.Sink.guarantee c.args.store.now c.args.jobs.now c.in_ok-ends.ends.items c.args.sinks.now (g.C.Check.checked c.args.check.now) c.in_ok-ends.ensures.items c.requires.sinks c.requires.fresh c.requires.unused;
  room = c.in_ok-ends.ensures.exact;
  counted = c.in_ok-ends.ensures.len;
}

pub loop-number-preserved : goal.loop-number-preserved
loop-number-preserved g c = record {
  through =
      through_more g.S.Sink.calls g.S.Sink.guarantee c.args.store.now c.args.jobs.now c.loop-number.number c.loop-number.ends.items c.push_reserved.new.self.items c.args.sinks.now c.loop-number.sinks
      (g.C.Check.checked c.loop-number.check) (g.C.Check.checked c.export_job-end.new.check) c.index-jobs-number.result c.export_job-end.result c.index-sinks-number.result c.export_job-end.new.sink
      c.loop-number.invariant.through (subst (λ (n : ℕ). c.loop-number.number < n) c.requires.sinks c.loop-number-test.true) c.index-jobs-number.is c.index-sinks-number.is c.push_reserved.ensures.items c.export_job-end.ensures.exported
      (λ about blocks meant first p. c.export_job-end.ensures.kept about blocks meant first (subst (λ (x : g.row.S.Denot). g.S.Sink.guarantee x about blocks meant first) c.index-sinks-number.is p));
  room = c.push_reserved.ensures.capacity ∙ c.loop-number.invariant.room;
  counted = c.push_reserved.ensures.len ∙ ap (λ (n : ℕ). n + 1) c.loop-number.invariant.counted;
}

pub returns-clause-delivered : goal.returns-clause-delivered
returns-clause-delivered g c =
    all_delivered g.S.Sink.calls g.S.Sink.guarantee c.args.store.now c.args.jobs.now c.loop-number.number c.loop-number.ends.items c.args.sinks.now c.loop-number.sinks (g.C.Check.checked c.loop-number.check) (subst (λ (n : ℕ). n ≤ c.loop-number.number) c.requires.sinks c.loop-number-test.false) c.loop-number.invariant.through

pub returns-clause-archived : goal.returns-clause-archived
returns-clause-archived g c =
    archived_of_delivered g.S.Sink.calls c.faithful_is_archived.ensures c.args.store.now 0 c.args.jobs.now c.loop-number.ends.items c.loop-number.sinks
    (all_delivered g.S.Sink.calls g.S.Sink.guarantee c.args.store.now c.args.jobs.now c.loop-number.number c.loop-number.ends.items c.args.sinks.now c.loop-number.sinks (g.C.Check.checked c.loop-number.check) (subst (λ (n : ℕ). n ≤ c.loop-number.number) c.requires.sinks c.loop-number-test.false) c.loop-number.invariant.through)

pub returns-clause-started : goal.returns-clause-started
returns-clause-started g c =
    all_started g.S.Sink.calls g.S.Sink.guarantee c.args.store.now c.args.jobs.now c.loop-number.number c.loop-number.ends.items c.args.sinks.now c.loop-number.sinks (g.C.Check.checked c.loop-number.check) (subst (λ (n : ℕ). n ≤ c.loop-number.number) c.requires.sinks c.loop-number-test.false) c.loop-number.invariant.through

pub returns-clause-checked : goal.returns-clause-checked
returns-clause-checked g c =
    all_checked g.S.Sink.calls g.S.Sink.guarantee c.args.store.now c.args.jobs.now c.loop-number.number c.loop-number.ends.items c.args.sinks.now c.loop-number.sinks (g.C.Check.checked c.loop-number.check) (subst (λ (n : ℕ). n ≤ c.loop-number.number) c.requires.sinks c.loop-number-test.false) c.loop-number.invariant.through
