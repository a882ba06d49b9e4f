use Rattle.ix_verify.proofs.SoundSections.{All-verified}
use Rattle.ix_verify.proofs.ArchivesAgain.{archive-roots, archive-sections, written-sound}
use Rattle.ix_verify.proofs.law.archives_are_read_back.Goals as goal

pub returns : goal.returns
returns c = record { roots = archive-roots; sections = archive-sections; sound = written-sound; verified = All-verified }
