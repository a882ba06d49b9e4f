use Rattle.std.proofs.Common.{◌≡◌, ◌==◌, length, true, false, Some, None, lit<, rules}
use Rattle.std.proofs.lemmas.Str.Pattern.{split_once_first}
use Rattle.ix_jobs.proofs.Pieces.{first_field_found, first_field_empty, first_field_none}
use Rattle.ix_jobs.proofs.line.first_field.Goals as goal
use Rattle.ix_jobs.proofs.line.first_field.Goals.{in_default-via-in-Some+else-not-is_empty, in_default-via-in_default}

pub returns-in-Some : goal.returns-in-Some
returns-in-Some c =
    let some : (length c.in-Some.field.now == 0) ≡ false = search rules in
    let cut = split_once_first 32 c.args.text.now (Some (c.in-Some.field, c.in-Some.rest)) c.in-Some.ensures.cases (lit< tt) in
    first_field_found (λ b. b == 32) c.args.text.now c.in-Some.field.now c.in-Some.rest.now cut.0 cut.1 cut.2 some

pub returns-in_default : goal.returns-in_default
returns-in_default c =
    elim c.in_default.branch [
      | in_default-via-in-Some+else-not-is_empty w ↦
          (let none : (length w.in-Some.field.now == 0) ≡ true = search rules in
          let cut = split_once_first 32 c.args.text.now (Some (w.in-Some.field, w.in-Some.rest)) w.in-Some.ensures.cases (lit< tt) in
          first_field_empty (λ b. b == 32) c.args.text.now w.in-Some.field.now w.in-Some.rest.now cut.0 cut.1 cut.2 none)
      | in_default-via-in_default w ↦
          (let whole = split_once_first 32 c.args.text.now None w.in_default.ensures.cases (lit< tt) in
          first_field_none (λ b. b == 32) c.args.text.now whole)
    ]
