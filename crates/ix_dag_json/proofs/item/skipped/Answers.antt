use Rattle.std.proofs.Common.{sym, ◌∙◌}
use Rattle.ix_cbor.proofs.Steps.{no_ok}
use Rattle.ix_dag_json.proofs.Places.{skips, skipped_behind}
use Rattle.ix_dag_json.proofs.item.skipped.Goals as goal

pub unreachable-requires : goal.unreachable-requires
unreachable-requires c = no_ok _ c.requires.1.1 (sym c.in-Err.ensures.1 ∙ skips c.args.levels c.args.at.now c.requires.0 c.requires.1)

pub returns : goal.returns
returns c = skipped_behind c.args.levels c.args.at.now c.in-Ok.rest.now c.requires.0 c.requires.1 c.in-Ok.ensures
