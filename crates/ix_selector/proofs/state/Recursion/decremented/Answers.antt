use Rattle.std.proofs.Common.{rules}
use Rattle.ix_selector.proofs.state.Recursion.decremented.Goals as goal

pub returns-in-Some : goal.returns-in-Some
returns-in-Some c = search rules
