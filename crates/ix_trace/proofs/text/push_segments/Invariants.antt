use Rattle.std.proofs.Common.{◌≡◌, ◌++◌, string_bytes, take}
use Rattle.ix_path.specs.Resolution.{segments_in}
use Rattle.ix_trace.specs.Text.{segment_texts}
use Rattle.ix_trace.proofs.text.push_segments.Given as goal

abbrev pub invariant-loop-segment : goal.invariant-loop-segment
invariant-loop-segment l = string_bytes l.text ≡ string_bytes l.fn.text ++ segment_texts (segments_in (take l.segment-index l.segments))
