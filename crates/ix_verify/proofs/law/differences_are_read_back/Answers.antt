use Rattle.ix_verify.proofs.Differences.{difference-back}
use Rattle.ix_verify.proofs.law.differences_are_read_back.Goals as goal

pub returns : goal.returns
returns c = difference-back
