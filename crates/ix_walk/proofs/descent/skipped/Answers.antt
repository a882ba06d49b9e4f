use Rattle.std.proofs.Common.{arith}
use Rattle.ix_store.proofs.Ends.{skip_end}
use Rattle.ix_walk.proofs.descent.skipped.Goals as goal

pub returns-clause-end : goal.returns-clause-end
returns-clause-end c = skip_end c.args.at.now c.in-Ok.rest.now (λ i. omega (arith, c.type_inv.at i)) c.in-Ok.ensures
