use Rattle.std.proofs.Common.{rules, ◌≡◌, List, sym, ◌∙◌, ap, subst, length}
use Rattle.std.specs.Arc.{arc_value}
use Rattle.ix_walk.specs.JobMeaning.{JobMeaning}
use Rattle.ix_car.specs.Archive.{known_at}
use Rattle.ix_car.specs.ArchiveMeaning.{calls_of, borrowed}
use Rattle.ix_pipeline.specs.Headline.{EachFresh}
use Rattle.ix_run.specs.Run.{EachRun, EachBegun, IsLeftOf}
use Rattle.ix_run.proofs.Runs.{begun-length, begun-fresh, delivered-length, kept-length, whole_again, ended_sinks, run-length}
use Rattle.ix_run.proofs.execution.run_observed.Goals as goal

pub export_prefetched-requires-after_bounds : goal.export_prefetched-requires-after_bounds
export_prefetched-requires-after_bounds g c = λ κs lives.
    let told = g.W.Write.contents in
    let same : c.as_slice.result.now ≡ (arc_value c.args.input.jobs.now).items = c.as_slice.ensures.value ∙ ap (λ v. v.items) c.deref-2.ensures in
    record {
      one_each = ap length c.as_mut_slice-sinks.ensures.value ∙ begun-length told (known_at c.deref.result.now (borrowed c.args.input.known)) c.deref.result.now c.as_slice.result.now c.args.writers.items c.in_ok-archives.archives.items c.in_ok-archives.ensures.begun ∙ ap length same;
      fresh =
          subst (EachFresh calls_of) (sym c.as_mut_slice-sinks.ensures.value)
          (begun-fresh told (known_at c.deref.result.now (borrowed c.args.input.known)) c.deref.result.now c.as_slice.result.now c.args.writers.items c.in_ok-archives.archives.items c.in_ok-archives.ensures.begun);
      unused = c.in_ok-checks.ensures.unused;
      few = c.requires.run.1;
      planned = search rules;
    }

pub finish_archives-requires : goal.finish_archives-requires
finish_archives-requires g c =
    let told = g.W.Write.contents in
    let sinks = c.export_prefetched.new.sinks in
    let archives = c.in_ok-archives.archives in
    let size = kept-length told (known_at (arc_value c.args.input.store.now) (borrowed c.args.input.known)) c.as_mut_slice-sinks.result.now sinks c.in-Ok.ensures.facts ∙ c.as_mut_slice-sinks.ensures.len in
    ap length (whole_again archives.len sinks archives.items size) ∙ delivered-length told (known_at (arc_value c.args.input.store.now) (borrowed c.args.input.known)) (arc_value c.args.input.store.now) 0 (arc_value c.args.input.jobs.now).items c.in-Ok.outcome.ends.items sinks c.in-Ok.ensures.delivered
    ∙ ap length (sym c.as_slice-2.ensures.value)

pub summarize-requires : goal.summarize-requires
summarize-requires g c =
    let jobs = (arc_value c.args.input.jobs.now).items in
    let archives = c.in_ok-archives.archives in
    let exported = c.in-Ok.ensures in
    let begun = subst (λ s. EachBegun g.W.Write.contents (known_at s (borrowed c.args.input.known)) c.deref.result.now c.as_slice.result.now c.args.writers.items c.in_ok-archives.archives.items) c.deref.ensures c.in_ok-archives.ensures.begun in
    let ran = ended_sinks g.W.Write.contents (known_at (arc_value c.args.input.store.now) (borrowed c.args.input.known)) c.deref.result.now (arc_value c.args.input.store.now) c.as_slice.result.now jobs c.args.writers.items c.in_ok-results.writers.items archives.items c.as_mut_slice-sinks.result.now c.export_prefetched.new.sinks
    archives.len c.in-Ok.outcome.ends.items c.as_slice-2.result.now c.in_ok-results.results.items c.deref.ensures (c.as_slice.ensures.value ∙ ap (λ v. v.items) c.deref-2.ensures) begun
    c.as_mut_slice-sinks.ensures.value c.as_mut_slice-sinks.ensures.len exported.facts exported.delivered exported.archived c.as_slice-2.ensures.value c.in_ok-results.ensures in
    ap length (c.as_slice-3.ensures.value ∙ ap (λ v. v.items) c.deref-3.ensures) ∙ run-length g.W.Write.contents (known_at (arc_value c.args.input.store.now) (borrowed c.args.input.known)) (arc_value c.args.input.store.now) 0 jobs c.args.writers.items c.in_ok-results.writers.items c.in_ok-results.results.items ran

pub returns-clause-ran : goal.returns-clause-ran
returns-clause-ran g c =
    let jobs = (arc_value c.args.input.jobs.now).items in
    let archives = c.in_ok-archives.archives in
    let exported = c.in-Ok.ensures in
    let begun = subst (λ s. EachBegun g.W.Write.contents (known_at s (borrowed c.args.input.known)) c.deref.result.now c.as_slice.result.now c.args.writers.items c.in_ok-archives.archives.items) c.deref.ensures c.in_ok-archives.ensures.begun in
    let ran = ended_sinks g.W.Write.contents (known_at (arc_value c.args.input.store.now) (borrowed c.args.input.known)) c.deref.result.now (arc_value c.args.input.store.now) c.as_slice.result.now jobs c.args.writers.items c.in_ok-results.writers.items archives.items c.as_mut_slice-sinks.result.now c.export_prefetched.new.sinks
    archives.len c.in-Ok.outcome.ends.items c.as_slice-2.result.now c.in_ok-results.results.items c.deref.ensures (c.as_slice.ensures.value ∙ ap (λ v. v.items) c.deref-2.ensures) begun
    c.as_mut_slice-sinks.ensures.value c.as_mut_slice-sinks.ensures.len exported.facts exported.delivered exported.archived c.as_slice-2.ensures.value c.in_ok-results.ensures in
    let out = c.in_ok-summarize.field-0 in
    let results = c.in_ok-results.results.items in
    record {
      results = results;
      ran = subst (EachRun g.W.Write.contents (known_at (arc_value c.args.input.store.now) (borrowed c.args.input.known)) (arc_value c.args.input.store.now) 0 jobs c.args.writers.items results) (sym c.in_ok-summarize.ensures.writers) ran;
      left = subst (λ (l : List JobMeaning). IsLeftOf l results out) (c.as_slice-3.ensures.value ∙ ap (λ v. v.items) c.deref-3.ensures) c.in_ok-summarize.ensures.left;
    }
