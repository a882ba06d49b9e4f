use Rattle.std.proofs.Common.{◌≡◌, ◌≤◌, length}
use denote.Text.{Utf8}
use denote.Shadow.{shadow}
use Rattle.ix_path.specs.Path.{segments_at, segments_view}
use Rattle.ix_path.proofs.Escapes.{after_front}
use Rattle.ix_path.proofs.path.segments_at.Given as goal

abbrev pub invariant-loop-rest : goal.invariant-loop-rest
invariant-loop-rest l =
    shadow (Utf8 l.rest) × (length l.rest ≤ l.end) × (after_front (segments_view l.segments) (segments_at l.end l.rest) ≡ segments_at l.end l.text)

abbrev pub decreases-loop-rest : goal.decreases-loop-rest
decreases-loop-rest l = length l.rest
