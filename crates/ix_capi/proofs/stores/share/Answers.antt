use Rattle.std.proofs.Common.{◌∙◌, refl, sym, ap, rules}
use Rattle.std.specs.Prelude.{Some}
use Rattle.ix_capi.proofs.Made.{shares_none}
use Rattle.ix_capi.proofs.stores.share.Goals as goal

pub returns-in-None : goal.returns-in-None
returns-in-None c = record {
  shared = shares_none c.args.store.now.pointed.value c.deref.result.now c.args.other.now.pointed.value c.args.other.now.pointed.value (c.in-Some.ensures.some ∙ ap (λ h. Some h) (sym c.deref.ensures)) c.in-None.ensures refl;
  store_stays = search rules;
}
