use Rattle.std.proofs.Common.{◌≡◌, ◌++◌, string_bytes, take}
use Rattle.ix_dag_json.specs.Reasons.{encoded_key}
use Rattle.ix_dag_json.proofs.fault.push_escaped.Given as goal

abbrev pub invariant-loop-byte : goal.invariant-loop-byte
invariant-loop-byte l = string_bytes l.text ≡ string_bytes l.initial.text ++ encoded_key (take l.byte-index l.key)
