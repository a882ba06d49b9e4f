use Rattle.ix_verify.proofs.SoundSections.{archive-sections_sound}
use Rattle.ix_verify.proofs.law.archives_have_sound_sections.Goals as goal

pub returns : goal.returns
returns c store number job = archive-sections_sound store number job
