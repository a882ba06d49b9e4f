use Rattle.std.proofs.Common.{◌≡◌, ◌≤◌, length, take}
use Rattle.std.specs.List.{filter}
use Rattle.ix_store.specs.Sound.{fails}
use Rattle.ix_store.proofs.judged.failing.Given as goal

abbrev pub invariant-loop-verdict : goal.invariant-loop-verdict
invariant-loop-verdict l = record {
  few : l.count ≤ l.verdict-index;
  counted : l.count ≡ length (filter fails (take l.verdict-index l.verdicts));
}
