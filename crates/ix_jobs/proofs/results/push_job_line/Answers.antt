use Rattle.std.proofs.Common.{◌≡◌, ◌++◌, [], ◌∷◌, ap, ◌∙◌, append_assoc}
use Rattle.std.specs.Prelude.{string_bytes}
use Rattle.std.proofs.lemmas.Result.{on_ok_weaker}
use Rattle.ix_jobs.specs.Report.{known_words, counts_words}
use Rattle.ix_jobs.proofs.results.push_job_line.Goals as goal

pub returns : goal.returns
returns c =
    let outcome = c.args.outcome.now in
    let old = string_bytes c.args.text.now in
    let head = counts_words c.args.job.now.name outcome.end outcome.counts in
    let tail = known_words outcome.counts.known in
    on_ok_weaker c.push_known.result
    (λ e. e ∙ ap (λ l. l ++ tail ++ 10 ∷ []) c.in_ok-push_counts.ensures
    ∙ ap (λ l. l ++ 10 ∷ []) (append_assoc old head tail) ∙ append_assoc old (head ++ tail) (10 ∷ []))
    c.push_known.ensures
