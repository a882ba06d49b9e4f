use Rattle.std.proofs.Common.{rules, ap, ◌∙◌, ◌≡◌, ◌++◌, length, string_bytes, ℕ, List}
use Rattle.ix_jobs.specs.Report.{done_count, skip_count, total_line}
use Rattle.ix_jobs.proofs.AbsentLines.{three_more, three_over, absent_job_more, all_absent_written}
use Rattle.ix_jobs.proofs.results.report_with_absent.Goals as goal

pub loop-job-preserved : goal.loop-job-preserved
loop-job-preserved c =
    let here = c.loop-job.job-iterator in
    let left = three_more here c.next.new.self c.next.result ((c.in-Some.job, c.in-Some.outcome), c.in-Some.count) c.in-Some.is c.next.ensures.steps in
    absent_job_more _ _ _ _ here c.next.new.self ((c.in-Some.job, c.in-Some.outcome), c.in-Some.count) c.as_slice.result.now left c.in_ok-push_absent_line.ensures c.in_ok-push_skip_lines.ensures c.as_slice.ensures.value c.loop-job.invariant

pub returns : goal.returns
returns c =
    let bytes : c.into_bytes.result.items ≡ string_bytes c.push_totals.new.text = search rules in
    let over = three_over c.loop-job.job-iterator c.next.new.self c.next.result c.in-None.is c.next.ensures.steps in
    let written = all_absent_written _ _ c.loop-job.job-iterator over c.loop-job.invariant in
    bytes ∙ c.in_ok-push_totals.ensures ∙ ap (λ (t : List ℕ). t ++ total_line (length c.args.jobs.now) (done_count c.args.results.now) (skip_count c.args.results.now)) written
