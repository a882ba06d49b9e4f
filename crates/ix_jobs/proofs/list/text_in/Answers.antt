use Rattle.std.proofs.Common.{◌≡◌, true, rules}
use Rattle.ix_jobs.specs.Jobs.{is_text}
use Rattle.ix_jobs.proofs.Texts.{text_is_utf8}
use Rattle.ix_jobs.proofs.list.text_in.Goals as goal

pub returns-in-Err : goal.returns-in-Err
returns-in-Err c =
    let passes : is_text c.args.line.now ≡ true = search rules in
    absurd (c.in-Err.ensures.cases.0 (text_is_utf8 c.args.line.now passes))
