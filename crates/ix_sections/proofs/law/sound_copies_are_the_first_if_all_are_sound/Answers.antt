use Rattle.ix_sections.proofs.CopyLists.{preferred-first, preferred-none-later}
use Rattle.ix_sections.proofs.law.sound_copies_are_the_first_if_all_are_sound.Goals as goal

pub returns-clause-same : goal.returns-clause-same
returns-clause-same c sections all = preferred-first sections all

pub returns-clause-none_later : goal.returns-clause-none_later
returns-clause-none_later c sections all = preferred-none-later sections all
