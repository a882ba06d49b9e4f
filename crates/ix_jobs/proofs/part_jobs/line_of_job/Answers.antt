use Rattle.std.proofs.Common.{◌≡◌, ◌<◌, ◌+◌, ◌==◌, ℕ, List, length, get_or, true, false, sym, ◌∙◌, ap, arith, rules}
use Rattle.std.specs.List.{slice_split}
use Rattle.std.specs.Str.Lines.{strip_carriage_return}
use Rattle.ix_jobs.specs.Jobs.{is_ignored}
use Rattle.ix_jobs.specs.Parts.{job_lines_from}
use Rattle.ix_jobs.proofs.LinesInTurn.{rest-shorter}
use Rattle.ix_jobs.proofs.JobLines.{job_lines-ignored, job_lines-own, get_or-behind}
use Rattle.ix_jobs.proofs.part_jobs.line_of_job.Goals as goal

pub returns-then-before-eq0 : goal.returns-then-before-eq0
returns-then-before-eq0 c =
    let some : 0 < length c.loop-rest.rest.now = search rules in
    let own : is_ignored (strip_carriage_return c.split_line.result.0.now) ≡ false = search rules in
    let none : c.loop-rest.before ≡ 0 = search rules in
    let first = job_lines-own (c.loop-rest.number + 1) c.split_line.result.0.now c.loop-rest.rest.now c.split_line.result.1.now some c.split_line.ensures.line c.split_line.ensures.rest own in
    sym (ap (λ (l : List ℕ). get_or l 0 0) first)
    ∙ ap (λ i. get_or (job_lines_from (c.loop-rest.number + 1) (slice_split (λ b. b == 10) c.loop-rest.rest.now)) i 0) (sym none)
    ∙ c.loop-rest.invariant.goes_on

pub loop-rest-preserved-else-before-eq0 : goal.loop-rest-preserved-else-before-eq0
loop-rest-preserved-else-before-eq0 c =
    let some : 0 < length c.loop-rest.rest.now = search rules in
    let own : is_ignored (strip_carriage_return c.split_line.result.0.now) ≡ false = search rules in
    let more : 0 < c.loop-rest.before = search rules in
    let number : ℕ = c.loop-rest.number + 1 in
    let first = job_lines-own number c.split_line.result.0.now c.loop-rest.rest.now c.split_line.result.1.now some c.split_line.ensures.line c.split_line.ensures.rest own in
    record {
      within = omega (arith, c.loop-rest.invariant.within, rest-shorter c.loop-rest.rest.now some, ap length c.split_line.ensures.rest);
      goes_on =
          sym (get_or-behind number (job_lines_from (number + 1) (slice_split (λ b. b == 10) c.split_line.result.1.now)) c.loop-rest.before more)
          ∙ sym (ap (λ (l : List ℕ). get_or l c.loop-rest.before 0) first)
          ∙ c.loop-rest.invariant.goes_on;
    }

pub loop-rest-preserved : goal.loop-rest-preserved
loop-rest-preserved c =
    let some : 0 < length c.loop-rest.rest.now = search rules in
    let ignored : is_ignored (strip_carriage_return c.split_line.result.0.now) ≡ true = search rules in
    let number : ℕ = c.loop-rest.number + 1 in
    let first = job_lines-ignored number c.split_line.result.0.now c.loop-rest.rest.now c.split_line.result.1.now some c.split_line.ensures.line c.split_line.ensures.rest ignored in
    record {
      within = omega (arith, c.loop-rest.invariant.within, rest-shorter c.loop-rest.rest.now some, ap length c.split_line.ensures.rest);
      goes_on = sym (ap (λ (l : List ℕ). get_or l c.loop-rest.before 0) first) ∙ c.loop-rest.invariant.goes_on;
    }
