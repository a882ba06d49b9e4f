use Rattle.std.proofs.Common.{sym, subst}
use Rattle.ix_cid.specs.Cid.{IsCid}
use Rattle.ix_sections.proofs.SectionCids.{has_cid}
use Rattle.ix_sections.proofs.reader.section.section_at.Goals as goal

pub of-requires : goal.of-requires
of-requires c =
    let has = has_cid c.in_ok-section.section.now c.in-Ok.length c.in-Ok.ensures.exact in
    record { cid = subst IsCid (sym c.split_at.ensures.front) has.is }
