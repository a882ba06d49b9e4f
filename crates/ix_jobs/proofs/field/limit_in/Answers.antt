use Rattle.std.proofs.Common.{◌≡◌, ◌≤◌, ℕ, List, get_or, sym, ◌∙◌, ap, arith}
use Rattle.std.proofs.lemmas.Option.{get_or_from_slice_get}
use Rattle.ix_jobs.proofs.Limits.{limit_in-ok, limit_in-err}
use Rattle.ix_jobs.proofs.field.limit_in.Goals as goal

pub returns-in-Ok-clause-exact : goal.returns-in-Ok-clause-exact
returns-in-Ok-clause-exact c =
    let low : 49 ≤ c.in-Some-49-to-57.field-0.now = omega arith in
    let high : c.in-Some-49-to-57.field-0.now ≤ 57 = omega arith in
    let first : get_or c.as_bytes.result.now 0 0 ≡ c.in-Some-49-to-57.field-0.now = get_or_from_slice_get c.as_bytes.result.now 0 c.in-Some-49-to-57.field-0.now 0 (sym c.in-Some-49-to-57.ensures.value) in
    let same : get_or c.args.text.now 0 0 ≡ c.in-Some-49-to-57.field-0.now = ap (λ (l : List ℕ). get_or l 0 0) (sym c.as_bytes.ensures.value) ∙ first in
    (limit_in-ok c.args.greatest c.args.text.now c.parse.result c.in-Ok.limit (omega (arith, low, same)) (omega (arith, high, same)) c.parse.ensures.value.0 c.in-Ok.is c.if-limit-greatest.true).0

pub returns-in-Ok-clause-within : goal.returns-in-Ok-clause-within
returns-in-Ok-clause-within c =
    let low : 49 ≤ c.in-Some-49-to-57.field-0.now = omega arith in
    let high : c.in-Some-49-to-57.field-0.now ≤ 57 = omega arith in
    let first : get_or c.as_bytes.result.now 0 0 ≡ c.in-Some-49-to-57.field-0.now = get_or_from_slice_get c.as_bytes.result.now 0 c.in-Some-49-to-57.field-0.now 0 (sym c.in-Some-49-to-57.ensures.value) in
    let same : get_or c.args.text.now 0 0 ≡ c.in-Some-49-to-57.field-0.now = ap (λ (l : List ℕ). get_or l 0 0) (sym c.as_bytes.ensures.value) ∙ first in (
      (limit_in-ok c.args.greatest c.args.text.now c.parse.result c.in-Ok.limit (omega (arith, low, same)) (omega (arith, high, same)) c.parse.ensures.value.0 c.in-Ok.is c.if-limit-greatest.true).1,
      c.if-limit-greatest.true,
    )

pub returns-in_default-parse-2-clause-exact : goal.returns-in_default-parse-2-clause-exact
returns-in_default-parse-2-clause-exact c =
    let low : 49 ≤ c.in-Some-49-to-57.field-0.now = omega arith in
    let first : get_or c.as_bytes.result.now 0 0 ≡ c.in-Some-49-to-57.field-0.now = get_or_from_slice_get c.as_bytes.result.now 0 c.in-Some-49-to-57.field-0.now 0 (sym c.in-Some-49-to-57.ensures.value) in
    let same : get_or c.args.text.now 0 0 ≡ c.in-Some-49-to-57.field-0.now = ap (λ (l : List ℕ). get_or l 0 0) (sym c.as_bytes.ensures.value) ∙ first in
    limit_in-err c.args.greatest (omega arith) c.args.text.now c.parse.result c.in_default-parse.field-0 (omega (arith, low, same)) c.parse.ensures.value.0 c.in_default-parse.is
