use Rattle.std.proofs.Common.{rules, ◌≡◌, subst}
use Rattle.std.proofs.lemmas.Result.{IfOk-weaker}
use Rattle.ix_json_report.specs.Members.{IsLine}
use Rattle.ix_json_report.specs.Tokens.{job_tokens}
use Rattle.ix_json_report.proofs.Objects.{job-line}
use Rattle.ix_json_report.proofs.job.push_job.Goals as goal

pub returns : goal.returns
returns c =
    let job = c.args.job.now in
    let outcome = c.args.outcome.now in
    let before : c.push_object.new.out.before ≡ c.args.text.items = search rules in
    let written : c.push_object.new.out.tokens ≡ job_tokens job outcome c.args.notes c.args.place = search rules in
    IfOk-weaker c.end_line.result _ _ (λ r line. job-line c.args.text.items r.items job outcome c.args.notes c.args.place (subst (λ ts. IsLine c.args.text.items r.items ts) written (subst (λ l. IsLine l r.items c.push_object.new.out.tokens) before line))) c.end_line.ensures
