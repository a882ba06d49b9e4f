use Rattle.std.proofs.Common.{◌≡◌, ◌++◌, drop, map}
use Rattle.json.specs.Reads.{token_of}
use Rattle.ix_dag_json.specs.Written.{layout_of, before_in, tokens_in}
use Rattle.ix_dag_json.proofs.output.Output.tokens.Given as goal

abbrev pub invariant-loop-token : goal.invariant-loop-token
invariant-loop-token l = record {
  laid : layout_of l.self ≡ layout_of l.initial.self;
  before : before_in l.self ≡ before_in l.initial.self;
  pushed : tokens_in l.self ++ map token_of (drop l.token-index l.tokens) ≡ tokens_in l.initial.self ++ map token_of l.tokens;
}
