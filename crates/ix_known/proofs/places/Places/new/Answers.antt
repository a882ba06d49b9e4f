use Rattle.ix_known.proofs.Decided.{places-none}
use Rattle.ix_known.proofs.places.Places.new.Goals as goal

pub returns : goal.returns
returns c store = places-none store _ c.new.ensures c.new-2.ensures
