use Rattle.std.proofs.Common.{◌≡◌, true, sym, subst}
use Rattle.std.specs.Prelude.{option_to_list}
use Rattle.ix_car.specs.Kept.{is_below}
use Rattle.ix_car.specs.Archive.{known_at}
use Rattle.ix_car.specs.ArchiveMeaning.{borrowed}
use Rattle.ix_car.specs.Archiving.{cut_behind}
use Rattle.ix_car.proofs.Tally.{tally-cut_off}
use Rattle.ix_car.proofs.archive.Archive.add_cut_off.Goals as goal

pub invariant_of-self : goal.invariant_of-self
invariant_of-self g c =
    let a = c.self.inside in
    let d = c.args.delivery.now in
    tally-cut_off (known_at a.store.now (borrowed a.known)) a.store.now a.deliveries c.push.new.self (option_to_list a.failed) (option_to_list a.closed) d a.pruned_below a.counts c.saturating_inc-self-inside.result a.written a.skips.items c.self.invariant
    (subst (λ v. is_below (cut_behind v.deliveries) d.visit.depth ≡ true) (sym c.self.view_is) c.requires.cut_off)
    c.push.ensures c.saturating_inc-self-inside.ensures
