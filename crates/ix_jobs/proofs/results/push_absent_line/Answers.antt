use Rattle.std.proofs.Common.{◌++◌, [], ◌∷◌, ap, ◌∙◌, append_assoc}
use Rattle.std.specs.Prelude.{string_bytes, codes, decimal}
use Rattle.std.proofs.lemmas.Result.{on_ok_weaker}
use Rattle.ix_jobs.specs.Report.{known_words, counts_words}
use Rattle.ix_jobs.proofs.results.push_absent_line.Goals as goal

pub returns : goal.returns
returns c =
    let outcome = c.args.outcome.now in
    let old = string_bytes c.args.text.now in
    let head = counts_words c.args.job.now.name outcome.end outcome.counts in
    let known = known_words outcome.counts.known in
    let word = codes " absent=" in
    let number = decimal c.args.absent in
    on_ok_weaker c.push_absent.result
    (λ e. e ∙ ap (λ l. l ++ known ++ word ++ number ++ 10 ∷ []) c.in_ok-push_counts.ensures ∙ simp append_assoc)
    c.push_absent.ensures
