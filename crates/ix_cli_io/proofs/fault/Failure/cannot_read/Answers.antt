use Rattle.std.proofs.Common.{rules}
use Rattle.ix_cli_io.specs.declared.fault.Failure.TheVariants.{CannotRead}
use Rattle.ix_cli_io.proofs.Failures.{named_file}
use Rattle.ix_cli_io.proofs.fault.Failure.cannot_read.Goals as goal

pub returns-in-Some : goal.returns-in-Some
returns-in-Some c = named_file (λ x e. CannotRead x e) c.args.path.now c.in-Some.path c.args.error.now c.in-Some.ensures.named (search rules) (λ other cause same. cc)
