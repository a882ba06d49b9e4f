use Rattle.ix_sections.proofs.SectionLists.{blocks-after_sections}
use Rattle.ix_sections.proofs.law.blocks_of_files_are_end_to_end.Goals as goal

pub returns : goal.returns
returns c store b = blocks-after_sections store b
