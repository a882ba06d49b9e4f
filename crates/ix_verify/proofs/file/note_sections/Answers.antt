use Rattle.std.proofs.lemmas.Slice.Zip.{Zip-more, either_empty_from_Zip}
use Rattle.ix_verify.proofs.ToldSections.{told-more, all-told, told-fit}
use Rattle.ix_verify.proofs.file.note_sections.Goals as goal

pub note_section-requires : goal.note_section-requires
note_section-requires c = told-fit c.args.most c.args.sections.now c.args.verdicts.now _ _ _ c.requires c.loop-section.invariant

pub loop-section-preserved : goal.loop-section-preserved
loop-section-preserved c =
    let left = Zip-more c.loop-section.section-iterator c.next.new.self c.next.result (c.in-Some.section, c.in-Some.verdict) c.in-Some.is c.next.ensures.steps in
    told-more c.args.most c.args.sections.now c.args.verdicts.now c.in-Some.section.now c.in-Some.verdict.now _ _ _ _ _ _ _ left.0 left.1 c.in_ok-note_section.ensures c.loop-section.invariant

pub returns : goal.returns
returns c =
    let none = either_empty_from_Zip c.loop-section.section-iterator c.next.new.self c.next.result c.in-None.is c.next.ensures.steps in
    all-told c.args.most c.args.sections.now c.args.verdicts.now _ _ _ _ none c.loop-section.invariant
