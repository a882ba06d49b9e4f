use Rattle.std.proofs.Common.{◌∙◌}
use Rattle.std.proofs.lemmas.Result.{on_ok_weaker}
use Rattle.ix_jobs.proofs.Lines.{total_line-same}
use Rattle.ix_jobs.proofs.results.push_totals.Goals as goal

pub returns : goal.returns
returns c = on_ok_weaker c.push_total_line.result (λ e. e ∙ total_line-same _ _ c.args.results.now _ _ c.done_count-done.ensures c.skip_count-skips.ensures) c.push_total_line.ensures
