use Rattle.std.proofs.Common.{◌≡◌, ◌++◌, take}
use Rattle.ix_json_report.specs.Tokens.{all_skips_tokens}
use Rattle.ix_json_report.proofs.skips.push_each_skip.Given as goal

-- the objects of the skips so far
abbrev pub invariant-loop-number : goal.invariant-loop-number
invariant-loop-number l = record {
  pushed : l.out.tokens ≡ l.initial.out.tokens ++ all_skips_tokens l.notes 0 (take l.number l.skips);
  before : l.out.before ≡ l.initial.out.before;
}
