use Rattle.std.proofs.Common.{map}
use Rattle.ix_known.specs.Findings.{pair_of}
use Rattle.ix_known.proofs.Decided.{HasTaken}
use Rattle.ix_known.proofs.places.Places.add_batch.Given as goal

abbrev pub invariant-loop-finding : goal.invariant-loop-finding
invariant-loop-finding g l = HasTaken l.store l.fn.self l.self (map pair_of l.sections) l.finding-index
