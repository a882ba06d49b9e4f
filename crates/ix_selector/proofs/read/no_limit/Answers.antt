use Rattle.std.proofs.Common.{arith}
use Rattle.ix_cbor.specs.Data.{data_of}
use Rattle.ix_selector.proofs.Parts.{none_lacks}
use Rattle.ix_selector.proofs.read.no_limit.Goals as goal

pub returns-in_default : goal.returns-in_default
returns-in_default c = none_lacks (data_of c.args.node.now) c.in_ok-map_entries.field-0.now (omega arith) c.in_ok-map_entries.ensures
