use Rattle.ix_load.proofs.NoFile.{no-file-of-memory}
use Rattle.ix_load.proofs.blocks.BlockFiles.refusal.Goals as goal

pub returns-in_default : goal.returns-in_default
returns-in_default g c = λ error is. absurd (no-file-of-memory c.at.result error c.at.ensures is)
