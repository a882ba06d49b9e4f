use Rattle.std.proofs.Common.{◌≡◌, ◌+◌, ◌<◌, ◌==◌, ℕ, List, length, Result, Ok, sym, ap, ◌∙◌, subst, arith, rules}
use Rattle.std.specs.List.{slice_split, before_first}
use Rattle.std.specs.Str.Lines.{strip_carriage_return}
use Rattle.ix_walk.specs.JobMeaning.{JobMeaning}
use Rattle.ix_jobs.specs.declared.fault.JobErrorKind.{JobErrorKind}
use Rattle.ix_jobs.specs.Jobs.{with_line, jobs_from}
use Rattle.ix_jobs.specs.Gives.{FailsAs}
use Rattle.ix_jobs.proofs.LinesInTurn.{jobs_from-ok, jobs_from-err, rest-shorter}
use Rattle.ix_jobs.proofs.part_jobs.read_window.Goals as goal

pub returns-in-Err-clause-fault : goal.returns-in-Err-clause-fault
returns-in-Err-clause-fault c =
    let some : 0 < length c.loop-rest.rest.now = search rules in
    let number : ℕ = c.loop-rest.number + 1 in
    let kind : JobErrorKind = c.in-Err.kind in
    let read = c.loop-rest.invariant.read in
    let before : List JobMeaning = read.0 in
    let failed : FailsAs kind kind (with_line c.args.greatest 1000000 before (strip_carriage_return (before_first (λ b. b == 10) c.loop-rest.rest.now))) =
    subst (λ (l : List ℕ). FailsAs kind kind (with_line c.args.greatest 1000000 before (strip_carriage_return l))) c.split_line.ensures.line (c.in-Err.ensures c.args.start c.args.end before read.1) in
    subst (λ (r : Result (List JobMeaning) (JobErrorKind × ℕ)). FailsAs kind (kind, number) r) read.2 (jobs_from-err kind c.args.greatest 1000000 number before c.loop-rest.rest.now some failed)

pub loop-rest-preserved : goal.loop-rest-preserved
loop-rest-preserved c =
    let some : 0 < length c.loop-rest.rest.now = search rules in
    let number : ℕ = c.loop-rest.number + 1 in
    let read = c.loop-rest.invariant.read in
    let before : List JobMeaning = read.0 in
    let more = c.in_default.ensures c.args.start c.args.end before read.1 in
    let jobs : List JobMeaning = more.0 in
    let joined : with_line c.args.greatest 1000000 before (strip_carriage_return (before_first (λ b. b == 10) c.loop-rest.rest.now)) ≡ Ok jobs =
    ap (λ (l : List ℕ). with_line c.args.greatest 1000000 before (strip_carriage_return l)) (sym c.split_line.ensures.line) ∙ more.1 in
    record {
      within = omega (arith, c.loop-rest.invariant.within, rest-shorter c.loop-rest.rest.now some, ap length c.split_line.ensures.rest);
      read = (
        jobs,
        more.2,
        ap (λ (l : List ℕ). jobs_from c.args.greatest 1000000 (number + 1) jobs (slice_split (λ b. b == 10) l)) c.split_line.ensures.rest ∙ sym (jobs_from-ok c.args.greatest 1000000 number before jobs c.loop-rest.rest.now some joined)
            ∙ read.2,
      );
    }
