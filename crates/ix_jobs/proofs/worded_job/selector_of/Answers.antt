use Rattle.std.proofs.Common.{◌∙◌}
use Rattle.std.specs.Prelude.{string_bytes}
use Rattle.ix_jobs.proofs.Ended.{IsSpelledBy-ended}
use Rattle.ix_jobs.proofs.worded_job.selector_of.Goals as goal

pub unreachable-requires : goal.unreachable-requires
unreachable-requires c =
    let ended = IsSpelledBy-ended c.args.word.now (string_bytes c.in_ok-line.line) c.in_ok-line.ensures.spelled in
    c.in-None.ensures.cases ended.0 (c.deref.ensures ∙ ended.1)
