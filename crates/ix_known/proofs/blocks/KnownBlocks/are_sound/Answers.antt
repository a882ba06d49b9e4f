use Rattle.std.proofs.Common.{subst}
use Rattle.ix_known.specs.Known.{AreSound}
use Rattle.ix_known.proofs.KnownCopies.{known-sound_of}
use Rattle.ix_known.proofs.blocks.KnownBlocks.are_sound.Goals as goal

pub returns : goal.returns
returns c = subst AreSound c.self.view_is (known-sound_of c.self.inside.store)
