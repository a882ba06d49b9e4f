use Rattle.std.proofs.Common.{rules}
use Rattle.ix_run.proofs.fault.fault_line.Goals as goal

pub returns-in-Car : goal.returns-in-Car
returns-in-Car c = search rules
