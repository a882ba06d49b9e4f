use Rattle.std.proofs.Common.{arith}
use Rattle.ix_store.proofs.Ends.{key_end}
use Rattle.ix_walk.proofs.descent.key_at.Goals as goal

pub returns-clause-end : goal.returns-clause-end
returns-clause-end c = key_end c.args.at.now c.in-Ok.read.0.now c.in-Ok.read.1.now (λ i. omega (arith, c.type_inv.at i)) c.in-Ok.ensures
