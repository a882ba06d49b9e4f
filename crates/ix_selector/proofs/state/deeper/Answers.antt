use Rattle.std.proofs.Common.{rules}
use Rattle.ix_selector.proofs.state.deeper.Goals as goal

pub returns-in-Some-Some : goal.returns-in-Some-Some
returns-in-Some-Some c = search rules
