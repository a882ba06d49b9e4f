use Rattle.std.proofs.Common.{◌≡◌, ◌+◌, ◌<◌, ◌==◌, ℕ, List, length, Result, Ok, sym, ap, ◌∙◌, subst, arith, rules}
use Rattle.std.specs.List.{slice_split, before_first}
use Rattle.std.specs.Str.Lines.{strip_carriage_return}
use Rattle.ix_walk.specs.JobMeaning.{JobMeaning}
use Rattle.ix_jobs.specs.declared.fault.JobErrorKind.{JobErrorKind}
use Rattle.ix_jobs.specs.Jobs.{with_line, jobs_from}
use Rattle.ix_jobs.specs.Gives.{FailsAs}
use Rattle.ix_jobs.proofs.LinesInTurn.{jobs_from-ok, jobs_from-err, rest-shorter}
use Rattle.ix_jobs.proofs.jobs.read_jobs_up_to.Goals as goal

pub returns-in-Err-clause-fault : goal.returns-in-Err-clause-fault
returns-in-Err-clause-fault c =
    let some : 0 < length c.loop-rest.rest.now = search rules in
    let number : ℕ = c.loop-rest.number + 1 in
    let kind : JobErrorKind = c.in-Err.kind in
    let before : List JobMeaning = c.loop-rest.jobs in
    let failed : FailsAs kind kind (with_line c.args.greatest 1000 before (strip_carriage_return (before_first (λ b. b == 10) c.loop-rest.rest.now))) =
    subst (λ (l : List ℕ). FailsAs kind kind (with_line c.args.greatest 1000 before (strip_carriage_return l))) c.split_line.ensures.line c.in-Err.ensures in
    subst (λ (r : Result (List JobMeaning) (JobErrorKind × ℕ)). FailsAs kind (kind, number) r) c.loop-rest.invariant.goes_on (jobs_from-err kind c.args.greatest 1000 number before c.loop-rest.rest.now some failed)

pub loop-rest-preserved : goal.loop-rest-preserved
loop-rest-preserved c =
    let some : 0 < length c.loop-rest.rest.now = search rules in
    let number : ℕ = c.loop-rest.number + 1 in
    let before : List JobMeaning = c.loop-rest.jobs in
    let jobs : List JobMeaning = c.add_line.new.jobs in
    let read : with_line c.args.greatest 1000 before (strip_carriage_return (before_first (λ b. b == 10) c.loop-rest.rest.now)) ≡ Ok jobs =
    ap (λ (l : List ℕ). with_line c.args.greatest 1000 before (strip_carriage_return l)) (sym c.split_line.ensures.line) ∙ c.in_default.ensures in
    record {
      within = omega (arith, c.loop-rest.invariant.within, rest-shorter c.loop-rest.rest.now some, ap length c.split_line.ensures.rest);
      goes_on =
          ap (λ (l : List ℕ). jobs_from c.args.greatest 1000 (number + 1) jobs (slice_split (λ b. b == 10) l)) c.split_line.ensures.rest ∙ sym (jobs_from-ok c.args.greatest 1000 number before jobs c.loop-rest.rest.now some read)
          ∙ c.loop-rest.invariant.goes_on;
    }
