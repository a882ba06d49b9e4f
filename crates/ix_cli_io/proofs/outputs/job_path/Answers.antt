use Rattle.std.proofs.Common.{rules}
use Rattle.ix_cli_io.proofs.outputs.job_path.Goals as goal

pub returns : goal.returns
returns c = search rules
