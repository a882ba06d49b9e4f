use Rattle.std.proofs.Common.{rules}
use Rattle.ix_car.proofs.archive.Archive.counts.Goals as goal

pub returns : goal.returns
returns g c = search rules
