use Rattle.std.proofs.Common.{◌<◌, length, refl, subst, rules}
use Rattle.std.specs.Arc.{arc_value}
use Rattle.ix_store.specs.Store.{Blocks}
use Rattle.ix_known.specs.Files.{IsKnownByFiles}
use Rattle.ix_load.proofs.Receivers.{knows-files}
use Rattle.ix_load.proofs.known.KnownInputs.add_files.Goals as goal

pub returns : goal.returns
returns g c =
    let reading = c.args.self.now.files.reading in
    let some : 0 < length c.args.files.items = search rules in
    let known = subst (λ (store : Blocks). IsKnownByFiles reading store c.args.files.items c.in_ok-known.known) c.deref.ensures c.in_ok-known.ensures.known in
    record { same = refl; more = knows-files reading (arc_value c.args.blocks.now.store) c.args.files.items c.args.blocks.now.known c.in_ok-known.known some known }
