use Rattle.std.proofs.Common.{rules, ◌≡◌, subst}
use Rattle.std.proofs.lemmas.Result.{IfOk-weaker}
use Rattle.ix_json_report.specs.Members.{IsLine}
use Rattle.ix_json_report.specs.Tokens.{error_tokens}
use Rattle.ix_json_report.proofs.Objects.{error-line}
use Rattle.ix_json_report.proofs.error.push_error.Goals as goal

pub returns : goal.returns
returns c =
    let before : c.push_object.new.out.before ≡ c.args.text.items = search rules in
    let written : c.push_object.new.out.tokens ≡ error_tokens c.args.error = search rules in
    IfOk-weaker c.end_line.result _ _ (λ r line. error-line c.args.text.items r.items c.args.error (subst (λ ts. IsLine c.args.text.items r.items ts) written (subst (λ l. IsLine l r.items c.push_object.new.out.tokens) before line))) c.end_line.ensures
