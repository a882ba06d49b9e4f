use Rattle.std.proofs.Common.{refl, inr}
use Rattle.ix_cli_io.proofs.fault.Failure.too_large.Goals as goal

pub returns-in-Ok : goal.returns-in-Ok
returns-in-Ok c = inr (record { name = c.in-Ok.path; cause = c.args.cause; named = c.in-Ok.ensures.ok; told_is = refl })
