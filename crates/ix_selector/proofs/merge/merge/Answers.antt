use Rattle.std.proofs.Common.{rules}
use Rattle.ix_selector.proofs.Merging.{rising-short}
use Rattle.ix_selector.proofs.StatesMerged.{merged-few}
use Rattle.ix_selector.proofs.merge.merge.Goals as goal

pub returns-else-len-ge2-clause-rising : goal.returns-else-len-ge2-clause-rising
returns-else-len-ge2-clause-rising c = rising-short c.args.states.now.items (search rules)

pub returns-else-len-ge2-clause-exact : goal.returns-else-len-ge2-clause-exact
returns-else-len-ge2-clause-exact c = merged-few c.args.states.now.items (search rules)
