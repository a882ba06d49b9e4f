use Rattle.std.proofs.Common.{sym, ◌∙◌}
use Rattle.ix_cbor.proofs.Steps.{no_ok}
use Rattle.ix_dag_json.proofs.item.front_at.Goals as goal

pub unreachable-requires : goal.unreachable-requires
unreachable-requires c = no_ok _ c.requires.0 (sym c.in-Err.ensures.exact.1 ∙ c.requires.1)
