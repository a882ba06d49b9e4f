use Rattle.std.proofs.Common.{subst}
use Rattle.ix_selector.specs.Behind.{residual_of}
use Rattle.ix_prefetch.specs.Expansions.{ExpansionTable, HasNumber}
use Rattle.ix_prefetch.proofs.expansions.Expansions.root_number.Goals as goal

pub returns : goal.returns
returns c = subst (λ (t : ExpansionTable). HasNumber t (residual_of t.job.selector) 0) c.self.view_is c.self.invariant.root
