use Rattle.std.proofs.Common.{◌≡◌, ◌∙◌, sym, ap, map, take, rules}
use Rattle.std.proofs.lemmas.List.{take-map}
use Rattle.ix_store.specs.Store.{with_block}
use Rattle.ix_sections.specs.Sections.{with_sections}
use Rattle.ix_sections.specs.SectionView.{section_of}
use Rattle.ix_api.proofs.FileBlocks.{sections-more}
use Rattle.ix_api.proofs.input.add_sections.Goals as goal

pub returns-in_err-to_cid-clause-begun : goal.returns-in_err-to_cid-clause-begun
returns-in_err-to_cid-clause-begun c =
    let so_far : c.loop-section.store ≡ with_sections c.args.store.now (take c.loop-section.section-index (map section_of c.args.sections.now)) =
    c.loop-section.invariant ∙ ap (with_sections c.args.store.now) (sym (take-map section_of c.loop-section.section-index c.args.sections.now)) in
    search rules

pub returns-in_err-add_copy-clause-begun : goal.returns-in_err-add_copy-clause-begun
returns-in_err-add_copy-clause-begun c =
    let same : c.add_copy.new.self ≡ c.loop-section.store = search rules in
    let so_far : c.add_copy.new.self ≡ with_sections c.args.store.now (take c.loop-section.section-index (map section_of c.args.sections.now)) =
    same ∙ c.loop-section.invariant ∙ ap (with_sections c.args.store.now) (sym (take-map section_of c.loop-section.section-index c.args.sections.now)) in
    search rules

pub loop-section-preserved : goal.loop-section-preserved
loop-section-preserved c =
    let s = c.section-item.result in
    let same : c.in_ok-to_cid.field-0 ≡ s.cid = search rules in
    let added : c.add_copy.new.self ≡ with_block c.loop-section.store (c.in_ok-to_cid.field-0, s.block.now) = search rules in
    sections-more c.args.store.now c.loop-section.store c.add_copy.new.self c.args.sections.now c.loop-section.section-index s c.loop-section-test.true c.section-item.is c.loop-section.invariant
    (added ∙ ap (λ cid. with_block c.loop-section.store (cid, s.block.now)) same)
