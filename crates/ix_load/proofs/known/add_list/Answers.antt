use Rattle.std.proofs.Common.{refl, subst}
use Rattle.std.specs.Prelude.{Option}
use Rattle.std.specs.Arc.{arc_value}
use Rattle.ix_store.specs.Store.{Blocks}
use Rattle.ix_store.specs.declared.places.PlaceSet.{PlaceSet}
use Rattle.ix_jobs.specs.Listing.{IsKnownWith}
use Rattle.ix_load.proofs.known.add_list.Goals as goal

pub returns-in-Ok : goal.returns-in-Ok
returns-in-Ok c =
    let list = c.args.list.now in
    let places = c.in-Ok.known in
    let over = subst (λ (store : Blocks). IsKnownWith c.take.result store list places) c.deref.ensures c.in-Ok.ensures.known in
    record { same = refl; more = (places, refl, subst (λ (before : Option PlaceSet). IsKnownWith before (arc_value c.args.blocks.now.store) list places) c.take.ensures.value over) }
