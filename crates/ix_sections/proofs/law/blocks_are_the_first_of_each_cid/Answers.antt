use Rattle.ix_sections.proofs.SectionLists.{blocks-of_sections}
use Rattle.ix_sections.proofs.law.blocks_are_the_first_of_each_cid.Goals as goal

pub returns : goal.returns
returns c b = blocks-of_sections b
