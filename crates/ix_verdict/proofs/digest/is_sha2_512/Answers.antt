use Rattle.std.proofs.Common.{rules}
use Rattle.ix_verdict.proofs.digest.is_sha2_512.Goals as goal

pub returns : goal.returns
returns c = search rules
