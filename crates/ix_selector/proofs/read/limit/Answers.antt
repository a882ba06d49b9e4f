use Rattle.std.proofs.Common.{arith}
use Rattle.ix_cbor.specs.Data.{data_of}
use Rattle.ix_selector.proofs.Parts.{limit_lacks}
use Rattle.ix_selector.proofs.read.limit.Goals as goal

pub returns-in_default-2 : goal.returns-in_default-2
returns-in_default-2 c = limit_lacks (data_of c.args.node.now) c.in_ok-map_entries.field-0.now (λ e. omega arith) c.in_ok-map_entries.ensures
