use Rattle.std.proofs.Common.{◌∙◌, refl, sym, ap, rules}
use Rattle.std.specs.Prelude.{Some}
use Rattle.ix_capi.proofs.Made.{leaves_none, leaves_base}
use Rattle.ix_capi.proofs.jobs.without.Goals as goal

pub returns-in-Some-Ok : goal.returns-in-Some-Ok
returns-in-Some-Ok c = record {
  left_out = leaves_base c.args.base.now.pointed.value c.deref.result.now c.in-Some-Ok.field-0 c.in-Some-Ok.owner c.args.job.now.pointed.value c.set_base.new.job.pointed.value c.set_base.result (c.in-Some.ensures.some ∙ ap (λ h. Some h) (sym c.deref.ensures)) c.in-Some-Ok.field-0-is c.in-Some-Ok.ensures c.set_base.ensures;
  base_stays = search rules;
}

pub returns-in-None : goal.returns-in-None
returns-in-None c = record {
  left_out = leaves_none c.args.base.now.pointed.value c.deref.result.now c.args.job.now.pointed.value c.args.job.now.pointed.value (c.in-Some.ensures.some ∙ ap (λ h. Some h) (sym c.deref.ensures)) c.in-None.ensures refl;
  base_stays = search rules;
}
