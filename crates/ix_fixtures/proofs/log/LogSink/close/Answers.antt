use Rattle.std.specs.Prelude.{option_to_list}
use Rattle.ix_car.proofs.Open.{closes}
use Rattle.ix_fixtures.proofs.log.LogSink.close.Goals as goal

pub returns-clause-closed : goal.returns-clause-closed
returns-clause-closed c = closes c.args.self.now.deliveries.items (option_to_list c.args.self.now.closed) c.args.end c.requires
