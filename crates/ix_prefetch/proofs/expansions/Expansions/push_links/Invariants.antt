use Rattle.std.proofs.Common.{map, take}
use Rattle.ix_prefetch.specs.Growing.{Adds, at_depth}
use Rattle.ix_prefetch.proofs.expansions.Expansions.push_links.Given as goal

abbrev pub invariant-loop-link : goal.invariant-loop-link
invariant-loop-link l = Adds l.fn.self l.self (map (at_depth 0) (take l.link-index l.links))
