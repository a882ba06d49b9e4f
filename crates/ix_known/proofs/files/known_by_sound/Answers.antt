use Rattle.std.proofs.Common.{subst, ◌∙◌}
use Rattle.ix_store.specs.Store.{Blocks}
use Rattle.ix_known.specs.Known.{IsKnownIn}
use Rattle.ix_known.proofs.files.known_by_sound.Goals as goal

pub returns-in-Ok-clause-known : goal.returns-in-Ok-clause-known
returns-in-Ok-clause-known g c =
    let is = c.in_ok-base.ensures.store in
    record { read = is.read; read_is = is.read_is; known = subst (λ (base : Blocks). IsKnownIn c.args.store.now base c.in-Ok.known) (c.deref.ensures ∙ is.store_is) c.in-Ok.ensures }
