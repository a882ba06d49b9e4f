use Rattle.std.proofs.Common.{refl, sym, ◌∙◌, ap, subst, length}
use Rattle.ix_car.specs.Archive.{known_at}
use Rattle.ix_car.specs.ArchiveMeaning.{borrowed, calls_of}
use Rattle.ix_pipeline.specs.Headline.{EachFresh}
use Rattle.ix_run.proofs.Runs.{begun-length, begun-fresh, delivered-length, kept-length, whole_again, ended_sinks}
use Rattle.ix_run.proofs.execution.run_jobs_without.Goals as goal

pub export_plain-requires-clause-sinks : goal.export_plain-requires-clause-sinks
export_plain-requires-clause-sinks g c =
    ap length c.as_mut_slice.ensures.value ∙ begun-length g.W.Write.contents (known_at c.args.store.now (borrowed c.args.known)) c.args.store.now c.args.list.now c.args.writers.items c.in_ok-archives.archives.items c.in_ok-archives.ensures.begun

pub export_plain-requires-clause-fresh : goal.export_plain-requires-clause-fresh
export_plain-requires-clause-fresh g c =
    subst (EachFresh calls_of) (sym c.as_mut_slice.ensures.value)
    (begun-fresh g.W.Write.contents (known_at c.args.store.now (borrowed c.args.known)) c.args.store.now c.args.list.now c.args.writers.items c.in_ok-archives.archives.items c.in_ok-archives.ensures.begun)

pub finish_archives-requires : goal.finish_archives-requires
finish_archives-requires g c =
    let sinks = c.export_plain.new.sinks in
    let archives = c.in_ok-archives.archives in
    let size = kept-length g.W.Write.contents (known_at c.args.store.now (borrowed c.args.known)) c.as_mut_slice.result.now sinks c.in_ok-ends.ensures.facts ∙ c.as_mut_slice.ensures.len in
    ap length (whole_again archives.len sinks archives.items size) ∙ delivered-length g.W.Write.contents (known_at c.args.store.now (borrowed c.args.known)) c.args.store.now 0 c.args.list.now c.in_ok-ends.ends.items sinks c.in_ok-ends.ensures.delivered
    ∙ ap length (sym c.as_slice.ensures.value)

pub returns-clause-ran : goal.returns-clause-ran
returns-clause-ran g c =
    let exported = c.in_ok-ends.ensures in
    let archives = c.in_ok-archives.archives in
    let told = c.in_ok-finish_archives.field-0 in
    ended_sinks g.W.Write.contents (known_at c.args.store.now (borrowed c.args.known)) c.args.store.now c.args.store.now c.args.list.now c.args.list.now c.args.writers.items told.1.items archives.items c.as_mut_slice.result.now c.export_plain.new.sinks archives.len c.in_ok-ends.ends.items c.as_slice.result.now
    told.0.items refl refl c.in_ok-archives.ensures.begun c.as_mut_slice.ensures.value c.as_mut_slice.ensures.len exported.facts exported.delivered exported.archived c.as_slice.ensures.value c.in_ok-finish_archives.ensures
