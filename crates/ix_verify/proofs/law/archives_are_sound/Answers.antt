use Rattle.ix_car.specs.Verified.{verified}
use Rattle.ix_verify.proofs.SoundSections.{All-verified}
use Rattle.ix_verify.proofs.ArchivesAgain.{archive-verifies}
use Rattle.ix_verify.proofs.WholeFound.{archive-whole, archive-selected}
use Rattle.ix_verify.proofs.law.archives_are_sound.Goals as goal

pub returns : goal.returns
returns c = record {
  deliveries = archive-verifies;
  job = λ store number job written. archive-verifies store job.roots (verified store number job) written (All-verified store number job);
  whole = archive-whole;
  selected = archive-selected;
}
