use Rattle.std.proofs.lemmas.Grind.{common_steps}
use Rattle.std.proofs.Common.{rules}
use Rattle.ix_store.proofs.index.key_hash.Goals as goal

pub returns-in-Some : goal.returns-in-Some
returns-in-Some c = search (rules, common_steps)
