use Rattle.std.proofs.Common.{◌≡◌, string_bytes, take}
use Rattle.ix_dag_json.specs.Reasons.{path_of}
use Rattle.ix_dag_json.proofs.fault.Part.path_text.Given as goal

abbrev pub invariant-loop-step : goal.invariant-loop-step
invariant-loop-step l = string_bytes l.text ≡ path_of (take l.step-index l.step-items)
