use Rattle.std.proofs.Common.{◌≡◌, ◌==◌, length, true, false, Some, None, lit<, rules}
use Rattle.std.proofs.lemmas.Str.Pattern.{split_once_first}
use Rattle.ix_jobs.proofs.Pieces.{last_field_found, last_field_empty, last_field_more}
use Rattle.ix_jobs.proofs.line.last_field.Goals as goal
use Rattle.ix_jobs.proofs.line.last_field.Goals.{in_default-via-in-None+else-not-is_empty, in_default-via-in_default}

pub returns-in-None : goal.returns-in-None
returns-in-None c =
    let some : (length c.args.text.now == 0) ≡ false = search rules in
    let whole = split_once_first 32 c.args.text.now None c.in-None.ensures.cases (lit< tt) in
    last_field_found (λ b. b == 32) c.args.text.now whole some

pub returns-in_default : goal.returns-in_default
returns-in_default c =
    elim c.in_default.branch [
      | in_default-via-in-None+else-not-is_empty w ↦
          (let none : (length c.args.text.now == 0) ≡ true = search rules in
          let whole = split_once_first 32 c.args.text.now None w.in-None.ensures.cases (lit< tt) in
          last_field_empty (λ b. b == 32) c.args.text.now whole none)
      | in_default-via-in_default w ↦
          (let cut = split_once_first 32 c.args.text.now (Some w.in_default.field-0) w.in_default.ensures.cases (lit< tt) in
          last_field_more (λ b. b == 32) c.args.text.now cut.0)
    ]
