use Rattle.std.proofs.Common.{rules}
use Rattle.ix_cli_io.proofs.fault.name_of.Goals as goal

pub returns-in-OutOfMemory : goal.returns-in-OutOfMemory
returns-in-OutOfMemory c = search rules
