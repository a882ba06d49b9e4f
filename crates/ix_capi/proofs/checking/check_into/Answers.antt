use Rattle.std.proofs.Common.{◌∙◌, sym, ap, rules}
use Rattle.std.specs.Prelude.{Some}
use Rattle.ix_capi.specs.Answers.{allowed_by}
use Rattle.ix_capi.proofs.Found.{checks_by}
use Rattle.ix_capi.proofs.checking.check_into.Goals as goal

pub returns-in-Some-Ok : goal.returns-in-Some-Ok
returns-in-Some-Ok c = record {
  checked = checks_by c.args.archive.now (allowed_by c.args.allowed) c.in-Some.allowed c.args.job.now.pointed.value c.deref.result.now c.args.out.now.pointed.value c.fill_found.new.handle.pointed.value c.in-Some.ensures (c.in-Some-take.ensures.some ∙ ap (λ h. Some h) (sym c.deref.ensures))
      c.in-Some-Ok.field-0 c.in-Some-Ok.found c.fill_found.result c.in-Some-Ok.field-0-is c.in-Some-Ok.ensures c.fill_found.ensures;
  job_stays = search rules;
}
