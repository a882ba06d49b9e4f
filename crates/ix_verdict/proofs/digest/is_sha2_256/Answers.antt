use Rattle.std.proofs.Common.{rules}
use Rattle.ix_verdict.proofs.digest.is_sha2_256.Goals as goal

pub returns : goal.returns
returns c = search rules
