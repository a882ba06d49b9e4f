use Rattle.std.proofs.Common.{sym, ◌∙◌}
use Rattle.ix_cbor.proofs.Steps.{no_ok}
use Rattle.ix_walk.proofs.Parts.{item_has_front}
use Rattle.ix_trace.proofs.item.front_at.Goals as goal

pub unreachable-requires : goal.unreachable-requires
unreachable-requires c =
    let own = item_has_front c.args.at.now c.requires.0 c.requires.1 in no_ok _ own.0 (sym c.in-Err.ensures.exact.1 ∙ own.1)
