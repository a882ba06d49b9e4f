use Rattle.ix_verify.proofs.SoundSections.{sound-section}
use Rattle.ix_verify.proofs.law.sound_blocks_are_sound_sections.Goals as goal

pub returns : goal.returns
returns c store cid block sound there = sound-section store cid block sound there
