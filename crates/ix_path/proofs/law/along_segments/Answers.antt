use Rattle.ix_path.proofs.OneOf.{enters_one_of}
use Rattle.ix_path.proofs.law.along_segments.Goals as goal

pub returns : goal.returns
returns c = enters_one_of
