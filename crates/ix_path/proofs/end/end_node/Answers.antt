use Rattle.ix_cbor.specs.Data.{data_of}
use Rattle.ix_path.proofs.Ends.{matcher_end, everything_end}
use Rattle.ix_path.proofs.end.end_node.Goals as goal

pub returns-in_ok-matcher_node-in-Node-clause-node : goal.returns-in_ok-matcher_node-in-Node-clause-node
returns-in_ok-matcher_node-in-Node-clause-node c =
    matcher_end c.args.end (data_of c.in_ok-matcher_node-in-Node.field-0) c.in-Node.is c.in_ok-matcher_node-in-Node.ensures

pub returns-in_ok-everything_node-in-Everything-clause-node :
    goal.returns-in_ok-everything_node-in-Everything-clause-node
returns-in_ok-everything_node-in-Everything-clause-node c =
    everything_end c.args.end (data_of c.in_ok-everything_node-in-Everything.field-0) c.in-Everything.is c.in_ok-everything_node-in-Everything.ensures
