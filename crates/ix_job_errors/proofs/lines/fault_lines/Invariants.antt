use Rattle.std.proofs.Common.{length}
use Rattle.ix_job_errors.proofs.lines.fault_lines.Given as goal

abbrev pub decreases-loop-fault : goal.decreases-loop-fault
decreases-loop-fault l = length l.rest
