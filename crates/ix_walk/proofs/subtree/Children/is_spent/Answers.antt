use Rattle.std.proofs.Common.{rules}
use Rattle.ix_walk.proofs.subtree.Children.is_spent.Goals as goal

pub returns : goal.returns
returns c = search rules
