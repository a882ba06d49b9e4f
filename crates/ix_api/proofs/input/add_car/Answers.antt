use Rattle.std.proofs.Common.{List, ◌∙◌, sym, ap, map}
use Rattle.std.specs.Prelude.{Ok}
use Rattle.ix_sections.specs.declared.reader.sections.Section.{Section}
use Rattle.ix_sections.specs.Sections.{with_sections, with_first_of_each}
use Rattle.ix_sections.specs.SectionView.{section_of}
use Rattle.ix_sections.proofs.SectionLists.{blocks-after_sections}
use Rattle.ix_api.proofs.FileBlocks.{fault-of_blocks}
use Rattle.ix_api.proofs.input.add_car.Goals as goal

pub returns-in-Err-clause-failed : goal.returns-in-Err-clause-failed
returns-in-Err-clause-failed c =
    c.car_failure.ensures c.args.car.now (fault-of_blocks c.args.car.now c.in-Err.fault c.in-Err.ensures.sections)

pub returns-in-Ok-add_sections-clause-added : goal.returns-in-Ok-add_sections-clause-added
returns-in-Ok-add_sections-clause-added c =
    let store = c.args.store.now in
    blocks-after_sections store c.args.car.now ∙ ap (with_first_of_each store) c.in-Ok.ensures.sections
    ∙ ap (λ blocks. Ok blocks) (ap (λ (ss : List Section). with_sections store (map section_of ss)) (sym c.as_slice.ensures.value) ∙ sym c.in-Ok-add_sections.ensures.added)
