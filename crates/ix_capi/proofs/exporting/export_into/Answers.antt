use Rattle.std.proofs.Common.{◌∙◌, refl, sym, ap, rules}
use Rattle.std.specs.Prelude.{Some}
use Rattle.ix_capi.proofs.Made.{exports_none}
use Rattle.ix_capi.proofs.exporting.export_into.Goals as goal

pub returns-in-None : goal.returns-in-None
returns-in-None c = record {
  exported = exports_none c.args.store.now.pointed.value c.args.job.now.pointed.value c.deref.result.now c.deref-2.result.now c.args.out.now.pointed.value c.args.out.now.pointed.value (c.in-Some.ensures.some ∙ ap (λ h. Some h) (sym c.deref.ensures))
      (c.in-Some-take.ensures.some ∙ ap (λ h. Some h) (sym c.deref-2.ensures)) c.in-None.ensures refl;
  store_stays = search rules;
  job_stays = search rules;
}
