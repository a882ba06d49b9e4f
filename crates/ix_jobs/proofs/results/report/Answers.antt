use Rattle.std.proofs.Common.{rules, ap, ◌∙◌, ◌≡◌, ◌++◌, length, string_bytes, ℕ, List}
use Rattle.std.proofs.lemmas.Slice.Zip.{Zip-more, either_empty_from_Zip}
use Rattle.ix_jobs.specs.Report.{done_count, skip_count, total_line}
use Rattle.ix_jobs.proofs.Lines.{a_job_more, all_written}
use Rattle.ix_jobs.proofs.results.report.Goals as goal

pub loop-job-preserved : goal.loop-job-preserved
loop-job-preserved c =
    let left = Zip-more c.loop-job.job-iterator c.next.new.self c.next.result (c.in-Some.job, c.in-Some.outcome) c.in-Some.is c.next.ensures.steps in
    a_job_more _ _ _ _ c.in-Some.job.now c.in-Some.outcome.now c.as_slice.result.now _ _ _ _ left.0 left.1 c.in_ok-push_job_line.ensures c.in_ok-push_skip_lines.ensures c.as_slice.ensures.value c.loop-job.invariant

pub returns : goal.returns
returns c =
    let bytes : c.into_bytes.result.items ≡ string_bytes c.push_totals.new.text = search rules in
    let none = either_empty_from_Zip c.loop-job.job-iterator c.next.new.self c.next.result c.in-None.is c.next.ensures.steps in
    let written = all_written _ _ _ _ none c.loop-job.invariant in
    bytes ∙ c.in_ok-push_totals.ensures ∙ ap (λ (t : List ℕ). t ++ total_line (length c.args.jobs.now) (done_count c.args.results.now) (skip_count c.args.results.now)) written
