use Rattle.std.proofs.Common.{◌≡◌, ◌++◌, take}
use Rattle.ix_store.specs.Sound.{picked, is_picked}
use Rattle.ix_store.proofs.table.push_picked.Given as goal

abbrev pub invariant-loop-place : goal.invariant-loop-place
invariant-loop-place g l = l.sorted.items ≡ l.fn.sorted.items ++ picked (is_picked l.passes) (take l.place l.verdicts) (take l.place l.list)
