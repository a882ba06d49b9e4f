use Rattle.std.proofs.Common.{◌≡◌, map, take, drop}
use Rattle.ix_store.specs.Sound.{verdict_of_copy}
use Rattle.ix_store.proofs.judge.judge_share.Given as goal

abbrev pub invariant-loop-place : goal.invariant-loop-place
invariant-loop-place l = l.verdicts.items ≡ map verdict_of_copy (drop l.from (take l.place l.entries))
