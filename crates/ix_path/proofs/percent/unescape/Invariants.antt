use Rattle.std.proofs.Common.{◌≡◌, ◌+◌, ◌-◌, ◌≤◌, length}
use Rattle.ix_path.specs.Path.{unescaped}
use Rattle.ix_path.proofs.Escapes.{after_front}
use Rattle.ix_path.proofs.percent.unescape.Given as goal

abbrev pub invariant-loop-rest : goal.invariant-loop-rest
invariant-loop-rest l = record {
  within : length l.rest ≤ length l.text;
  goes_on : after_front l.bytes.items (unescaped (l.place + (length l.text - length l.rest)) l.rest) ≡ unescaped l.place l.text;
}

abbrev pub decreases-loop-rest : goal.decreases-loop-rest
decreases-loop-rest l = length l.rest
