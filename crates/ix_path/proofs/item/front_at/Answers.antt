use Rattle.std.proofs.Common.{sym, ◌∙◌}
use Rattle.ix_cbor.proofs.Steps.{no_ok}
use Rattle.ix_path.proofs.Nodes.{front_there}
use Rattle.ix_path.proofs.item.front_at.Goals as goal

pub unreachable-requires : goal.unreachable-requires
unreachable-requires c =
    let own = front_there c.args.at.now c.requires.0 c.requires.1 in no_ok _ own.0 (sym c.in-Err.ensures.exact.1 ∙ own.1)
