use Rattle.std.proofs.Common.{slice_range}
use Rattle.ix_prefetch.specs.Growing.{Adds}
use Rattle.ix_prefetch.proofs.expansions.Expansions.append_list.Given as goal

abbrev pub invariant-loop-link : goal.invariant-loop-link
invariant-loop-link l = Adds l.fn.self l.self (slice_range l.part.links l.fn.pair.from l.link)
