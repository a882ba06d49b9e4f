use Rattle.std.proofs.Common.{◌∙◌}
use Rattle.ix_trace.proofs.Texts.{last_empty}
use Rattle.ix_trace.proofs.text.ends_empty.Goals as goal

pub returns-in-Some : goal.returns-in-Some
returns-in-Some c = c.is_empty.ensures ∙ last_empty c.args.segments.now c.in-Some.segment.now c.in-Some.ensures.value
