use Rattle.std.proofs.Common.{◌≡◌, ◌++◌, string_bytes, IsUtf8}
use Rattle.std.specs.Str.Iter.{chars_rest}
use Rattle.ix_dag_json.specs.Hidden.{escaped}
use Rattle.ix_dag_json.proofs.hidden.escape_hidden.Given as goal

abbrev pub invariant-loop-character : goal.invariant-loop-character
invariant-loop-character l =
    IsUtf8 (chars_rest l.character-iterator) × (string_bytes l.escaped ++ escaped (chars_rest l.character-iterator) ≡ escaped l.fn.text)
