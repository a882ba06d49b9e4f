use Rattle.ix_known.proofs.KnownIn.{HasFirst, answers_of}
use Rattle.ix_known.proofs.known.known_places_alone.Given as goal

abbrev pub invariant-loop-place : goal.invariant-loop-place
invariant-loop-place l = HasFirst (answers_of l.fn.store l.fn.base) l.known l.place
