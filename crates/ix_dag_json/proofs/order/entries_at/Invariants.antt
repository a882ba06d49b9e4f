use Rattle.ix_cbor.specs.Views.{key_bytes}
use Rattle.ix_dag_json.proofs.PlacedEntries.{EntriesRead}
use Rattle.ix_dag_json.proofs.order.entries_at.Given as goal

abbrev pub invariant-loop : goal.invariant-loop
invariant-loop l = EntriesRead l.levels l.count l.at l.entries.items l.counter (key_bytes l.before) l.rest
