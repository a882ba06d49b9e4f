use Rattle.ix_verify.proofs.EndToEnd.{sound-first, sound-none_later}
use Rattle.ix_verify.proofs.law.sound_copies_are_the_first.Goals as goal

pub returns : goal.returns
returns c files all = (sound-first files all, sound-none_later files all)
