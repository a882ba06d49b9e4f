use Rattle.std.proofs.Common.{◌≡◌, ◌≤◌, ◌+◌, ◌-◌, ◌∙◌, ap, ℕ, get_or, slice_range, arith}
use Rattle.ix_jobs.specs.Parts.{cut, job_lines}
use Rattle.ix_jobs.proofs.PartJobs.{part-read, part-too_long}
use Rattle.ix_jobs.proofs.part_jobs.read_jobs_part_up_to.Goals as goal

pub returns-then-end-start-gt-MOST_JOBS-clause-fault : goal.returns-then-end-start-gt-MOST_JOBS-clause-fault
returns-then-end-start-gt-MOST_JOBS-clause-fault c =
    let k : ℕ = c.args.part.number in
    let n : ℕ = c.args.part.of in
    let count : ℕ = c.job_count-count.result in
    let read = c.in_ok-jobs.ensures.jobs in
    let line : c.line_of_job-line.result ≡ get_or (job_lines c.args.bytes.now) (cut (k - 1) n count + 1000) 0 =
    c.line_of_job-line.ensures ∙ ap (λ s. get_or (job_lines c.args.bytes.now) (s + 1000) 0) c.start-start.ensures in
    part-too_long k n (omega (arith, c.args.part.from_one, c.args.part.there)) c.args.part.there c.args.greatest c.args.bytes.now read.0 read.1 count c.job_count-count.ensures.count c.line_of_job-line.result line
    (omega (arith, c.if-end-start-gt-MOST_JOBS.true, c.start-start.ensures, c.end-end.ensures))

pub returns-clause-jobs : goal.returns-clause-jobs
returns-clause-jobs c =
    let k : ℕ = c.args.part.number in
    let n : ℕ = c.args.part.of in
    let count : ℕ = c.job_count-count.result in
    let read = c.in_ok-jobs.ensures.jobs in
    let few : cut k n count - cut (k - 1) n count ≤ 1000 = omega (arith, c.if-end-start-gt-MOST_JOBS.false, c.start-start.ensures, c.end-end.ensures) in
    let last : c.min.result ≡ cut k n count = omega (arith, few, c.min.ensures, c.start-start.ensures, c.end-end.ensures) in
    part-read k n (omega (arith, c.args.part.from_one, c.args.part.there)) c.args.part.there c.args.greatest c.args.bytes.now read.0 read.1 count c.job_count-count.ensures.count c.in_ok-jobs.jobs.items c.min.result
    (read.2 ∙ ap (λ s. slice_range read.0 s c.min.result) c.start-start.ensures) last few
