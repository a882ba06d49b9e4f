use Rattle.std.proofs.Common.{refl}
use Rattle.ix_verify.specs.Outcome.{link_finding}
use Rattle.ix_verify.proofs.reach.Reached.nothing.Goals as goal

pub returns : goal.returns
returns c = λ allowed store most. record { skipped = c.new.ensures link_finding most; lacking = refl; unfinished = refl }
