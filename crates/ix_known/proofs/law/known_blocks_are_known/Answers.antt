use Rattle.ix_known.proofs.KnownCopies.{are-known_blocks}
use Rattle.ix_known.proofs.law.known_blocks_are_known.Goals as goal

pub returns : goal.returns
returns c base = are-known_blocks base
