use Rattle.std.proofs.Common.{◌≡◌, ◌*◌, map, take}
use Rattle.ix_store.specs.Sound.{verdict_of_copy}
use Rattle.ix_store.proofs.judge.join_shares.Given as goal

abbrev pub invariant-loop-judged : goal.invariant-loop-judged
invariant-loop-judged l = l.verdicts.items ≡ map verdict_of_copy (take (l.judged-index * l.share) l.entries)
