use Rattle.std.proofs.lemmas.Grind.{common_steps}
use Rattle.std.proofs.Common.{arith, ◌∙◌}
use Rattle.ix_selector.specs.Reading.{edge_form}
use Rattle.ix_selector.specs.Shapes.{around_of, entries_data}
use Rattle.ix_cbor.specs.Data.{data_of}
use Rattle.ix_selector.proofs.Parts.{map_ok, edge_lacks}
use Rattle.ix_selector.proofs.read.edge.Goals as goal

pub returns-in_default : goal.returns-in_default
returns-in_default c = λ read.
    let es = c.in_ok-map_entries.field-0.now in
    map_ok (edge_form (around_of c.args.around)) (data_of c.args.body.now) (entries_data es) c.in_ok-map_entries.ensures ∙ edge_lacks (around_of c.args.around) es (omega arith)

pub returns-in-Unguarded : goal.returns-in-Unguarded
returns-in-Unguarded c = grind (arith, common_steps)
