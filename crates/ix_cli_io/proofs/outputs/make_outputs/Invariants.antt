use Rattle.std.proofs.Common.{◌≡◌, map, take}
use Rattle.ix_cli_io.specs.Failure.{paths_of}
use Rattle.ix_cli_io.specs.Output.{path_of}
use Rattle.ix_cli_io.proofs.outputs.make_outputs.Given as goal

abbrev pub invariant-loop-job-2 : goal.invariant-loop-job-2
invariant-loop-job-2 g l = map path_of l.outputs.items ≡ paths_of l.fn.folder (take l.job-index l.fn.jobs)
