use Rattle.std.proofs.Common.{◌≡◌, [], ◌∙◌, ap}
use Rattle.ix_sections.specs.Writing.{header_of}
use Rattle.ix_own_archive.proofs.Headers.{begins-with, lacks-header, header-fault}
use Rattle.ix_own_archive.proofs.Rightly.{header-not}
use Rattle.ix_own_archive.proofs.check.check_archive.Goals as goal

pub check_sections-requires : goal.check_sections-requires
check_sections-requires c =
    let header : c.as_slice.result.now ≡ header_of c.args.job.now.roots = c.as_slice.ensures.value ∙ c.in-Ok.ensures ∙ ap header_of c.roots.ensures in
    begins-with c.args.archive.now c.as_slice.result.now c.in-Some.sections.now (header_of c.args.job.now.roots) header c.in-Some.ensures.cases.0 c.in-Some.ensures.cases.1

pub returns-clause-fault : goal.returns-clause-fault
returns-clause-fault c =
    let header : c.as_slice.result.now ≡ header_of c.args.job.now.roots = c.as_slice.ensures.value ∙ c.in-Ok.ensures ∙ ap header_of c.roots.ensures in
    header-fault [] c.args.job.now c.args.allowed c.args.archive.now c.header_reason.result
    (lacks-header c.args.archive.now c.as_slice.result.now (header_of c.args.job.now.roots) header c.in-None.ensures.cases) c.header_reason.ensures

pub returns-clause-rightly : goal.returns-clause-rightly
returns-clause-rightly c =
    let header : c.as_slice.result.now ≡ header_of c.args.job.now.roots = c.as_slice.ensures.value ∙ c.in-Ok.ensures ∙ ap header_of c.roots.ensures in
    header-not [] c.args.job.now c.args.archive.now c.header_reason.result
    (lacks-header c.args.archive.now c.as_slice.result.now (header_of c.args.job.now.roots) header c.in-None.ensures.cases) c.header_reason.ensures
