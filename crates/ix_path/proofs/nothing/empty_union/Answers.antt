use Rattle.ix_cbor.specs.Data.{data_of}
use Rattle.ix_path.proofs.EmptyUnion.{nothing_node, nothing_is_read, nothing_is_right}
use Rattle.ix_path.proofs.nothing.empty_union.Goals as goal

pub returns-in-Ok-read : goal.returns-in-Ok-read
returns-in-Ok-read c =
    let same = nothing_node c.in-Ok.tree (data_of c.in_ok-node.node) c.new.result c.new.ensures.items c.in-Ok.ensures.ok c.in_ok-node.ensures.exact in
    nothing_is_read c.in-Ok.tree c.in-Ok-read.selector same c.in-Ok-read.ensures.exact

pub unreachable-requires-in_default-fault : goal.unreachable-requires-in_default-fault
unreachable-requires-in_default-fault c =
    let same = nothing_node c.in-Ok.tree (data_of c.in_ok-node.node) c.new.result c.new.ensures.items c.in-Ok.ensures.ok c.in_ok-node.ensures.exact in
    nothing_is_right c.in-Ok.tree c.in-Err.fault same c.in-Err.ensures.exact c.in_default-fault.not-Memory
