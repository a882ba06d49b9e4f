use Rattle.std.proofs.Common.{◌∙◌}
use Rattle.ix_store.proofs.Blocks.{fault_is}
use Rattle.ix_store.proofs.table.has_fault.Goals as goal

pub returns : goal.returns
returns c = c.is_err.ensures.value ∙ fault_is c.args.bytes.now c.check.result c.check.ensures
