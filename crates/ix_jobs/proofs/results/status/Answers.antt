use Rattle.std.proofs.Common.{sym, ◌∙◌, rules, tests, arith, ◌≡◌}
use Rattle.std.specs.List.{list_all}
use Rattle.std.proofs.lemmas.Iterator.{YieldsList-from_slice}
use Rattle.std.proofs.lemmas.Iterator.Search.{all_from_yields_List}
use Rattle.ix_jobs.specs.Report.{is_done}
use Rattle.ix_jobs.specs.declared.results.JobResult.{JobResult}
use Rattle.ix_jobs.proofs.Lines.{status_with_skips, status_without_skips}
use Rattle.ix_jobs.proofs.results.status.Goals as goal

pub returns-then-skip_count-gt0 : goal.returns-then-skip_count-gt0
returns-then-skip_count-gt0 c =
    let all : c.all.result ≡ list_all (λ (r : JobResult). is_done r.end) c.args.results.now = all_from_yields_List (λ (r : JobResult). is_done r.end) _ _ c.all.result c.all.ensures.ran (YieldsList-from_slice c.args.results.now cc) (λ x b q k. search (rules, tests)) in
    status_with_skips c.args.results.now (sym all ∙ c.if-not-all.false) (omega arith)

pub returns-else-skip_count-gt0 : goal.returns-else-skip_count-gt0
returns-else-skip_count-gt0 c =
    let all : c.all.result ≡ list_all (λ (r : JobResult). is_done r.end) c.args.results.now = all_from_yields_List (λ (r : JobResult). is_done r.end) _ _ c.all.result c.all.ensures.ran (YieldsList-from_slice c.args.results.now cc) (λ x b q k. search (rules, tests)) in
    status_without_skips c.args.results.now (sym all ∙ c.if-not-all.false) (omega arith)
