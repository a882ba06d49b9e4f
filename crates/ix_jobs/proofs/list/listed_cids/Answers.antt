use Rattle.std.proofs.Common.{◌≡◌, ◌+◌, ◌<◌, ◌==◌, ℕ, List, length, Result, Ok, sym, ap, ◌∙◌, subst, arith, rules}
use Rattle.std.specs.List.{slice_split, before_first}
use Rattle.std.specs.Str.Lines.{strip_carriage_return}
use Rattle.ix_jobs.proofs.LinesInTurn.{rest-shorter}
use Rattle.ix_jobs.specs.declared.list_fault.ListErrorKind.{ListErrorKind}
use Rattle.ix_jobs.specs.HaveList.{with_line, cids_from}
use Rattle.ix_jobs.specs.GivesList.{FailsAs}
use Rattle.ix_jobs.proofs.ListLinesInTurn.{cids_from-ok, cids_from-err}
use Rattle.ix_jobs.proofs.list.listed_cids.Goals as goal

pub returns-in-Err-clause-fault : goal.returns-in-Err-clause-fault
returns-in-Err-clause-fault c =
    let some : 0 < length c.loop-rest.rest.now = search rules in
    let number : ℕ = c.loop-rest.number + 1 in
    let kind : ListErrorKind = c.in-Err.kind in
    let before : List (List ℕ) = c.loop-rest.cids.items in
    let failed : FailsAs kind kind (with_line before (strip_carriage_return (before_first (λ b. b == 10) c.loop-rest.rest.now))) =
    subst (λ (l : List ℕ). FailsAs kind kind (with_line before (strip_carriage_return l))) c.split_line.ensures.line c.in-Err.ensures in
    subst (λ (r : Result (List (List ℕ)) (ListErrorKind × ℕ)). FailsAs kind (kind, number) r) c.loop-rest.invariant.goes_on (cids_from-err kind number before c.loop-rest.rest.now some failed)

pub loop-rest-preserved : goal.loop-rest-preserved
loop-rest-preserved c =
    let some : 0 < length c.loop-rest.rest.now = search rules in
    let number : ℕ = c.loop-rest.number + 1 in
    let before : List (List ℕ) = c.loop-rest.cids.items in
    let cids : List (List ℕ) = c.push_line.new.cids.items in
    let read : with_line before (strip_carriage_return (before_first (λ b. b == 10) c.loop-rest.rest.now)) ≡ Ok cids =
    ap (λ (l : List ℕ). with_line before (strip_carriage_return l)) (sym c.split_line.ensures.line) ∙ c.in_default.ensures in
    record {
      within = omega (arith, c.loop-rest.invariant.within, rest-shorter c.loop-rest.rest.now some, ap length c.split_line.ensures.rest);
      goes_on =
          ap (λ (l : List ℕ). cids_from (number + 1) cids (slice_split (λ b. b == 10) l)) c.split_line.ensures.rest ∙ sym (cids_from-ok number before cids c.loop-rest.rest.now some read)
          ∙ c.loop-rest.invariant.goes_on;
    }
