use Rattle.ix_path.proofs.Ends.{unread_deep}
use Rattle.ix_path.proofs.selector.read_tree.Goals as goal

pub returns : goal.returns
returns c = record { same = tt; canonical = tt; read = tt; refused = unread_deep c.args.tree c.in-Err.fault c.in-Err.ensures.exact c.in_default.not-Memory }
