use Rattle.ix_selector.proofs.Parts.{entries_are}
use Rattle.ix_selector.proofs.read.map_entries.Goals as goal

pub returns-in-Map : goal.returns-in-Map
returns-in-Map c = entries_are c.args.node.now c.in-Map.entries c.as_slice.result.now c.in-Map.is c.as_slice.ensures.value
