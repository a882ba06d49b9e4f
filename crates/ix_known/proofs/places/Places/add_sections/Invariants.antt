use Rattle.std.proofs.Common.{length}
use Rattle.ix_known.proofs.Sections.{HasRead}
use Rattle.ix_known.proofs.places.Places.add_sections.Given as goal

abbrev pub invariant-loop-rest : goal.invariant-loop-rest
invariant-loop-rest g l = HasRead l.store l.fn.self l.self l.sections l.rest

abbrev pub decreases-loop-rest : goal.decreases-loop-rest
decreases-loop-rest g l = length l.rest
