use Rattle.std.proofs.Common.{◌≡◌, ◌<◌, ◌+◌, ◌==◌, length, true, false, ap, arith, rules}
use Rattle.std.specs.List.{slice_split}
use Rattle.std.specs.Str.Lines.{strip_carriage_return}
use Rattle.ix_jobs.specs.Jobs.{is_ignored}
use Rattle.ix_jobs.proofs.LinesInTurn.{rest-shorter}
use Rattle.ix_jobs.proofs.JobLines.{job_lines-ignored, job_lines-own, job_lines-many}
use Rattle.ix_jobs.proofs.part_jobs.job_count.Goals as goal

pub loop-rest-preserved-then-not-is_ignored : goal.loop-rest-preserved-then-not-is_ignored
loop-rest-preserved-then-not-is_ignored c =
    let some : 0 < length c.loop-rest.rest.now = search rules in
    let own : is_ignored (strip_carriage_return c.split_line.result.0.now) ≡ false = search rules in
    let first = ap length (job_lines-own 1 c.split_line.result.0.now c.loop-rest.rest.now c.split_line.result.1.now some c.split_line.ensures.line c.split_line.ensures.rest own) in
    let many = job_lines-many (1 + 1) 1 (slice_split (λ b. b == 10) c.split_line.result.1.now) in
    record {
      within = omega (arith, c.loop-rest.invariant.within, rest-shorter c.loop-rest.rest.now some, ap length c.split_line.ensures.rest);
      goes_on = omega (arith, c.loop-rest.invariant.goes_on, first, many);
    }

pub loop-rest-preserved : goal.loop-rest-preserved
loop-rest-preserved c =
    let some : 0 < length c.loop-rest.rest.now = search rules in
    let ignored : is_ignored (strip_carriage_return c.split_line.result.0.now) ≡ true = search rules in
    let first = ap length (job_lines-ignored 1 c.split_line.result.0.now c.loop-rest.rest.now c.split_line.result.1.now some c.split_line.ensures.line c.split_line.ensures.rest ignored) in
    let many = job_lines-many (1 + 1) 1 (slice_split (λ b. b == 10) c.split_line.result.1.now) in
    record {
      within = omega (arith, c.loop-rest.invariant.within, rest-shorter c.loop-rest.rest.now some, ap length c.split_line.ensures.rest);
      goes_on = omega (arith, c.loop-rest.invariant.goes_on, first, many);
    }
