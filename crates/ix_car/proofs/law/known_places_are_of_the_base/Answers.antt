use Rattle.ix_car.proofs.KnownBlocks.{places-of-base}
use Rattle.ix_car.proofs.law.known_places_are_of_the_base.Goals as goal

pub returns : goal.returns
returns c = places-of-base
