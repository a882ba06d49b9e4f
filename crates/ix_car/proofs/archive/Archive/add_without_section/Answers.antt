use Rattle.std.proofs.Common.{◌≡◌, false, sym, subst}
use Rattle.std.specs.Prelude.{option_to_list, None}
use Rattle.ix_car.specs.Kept.{is_below, kept}
use Rattle.ix_car.specs.Archive.{known_at}
use Rattle.ix_car.specs.ArchiveMeaning.{borrowed}
use Rattle.ix_car.specs.Archiving.{cut_behind, unwritten_block}
use Rattle.ix_car.proofs.Tally.{tally-repeat}
use Rattle.ix_car.proofs.archive.Archive.add_without_section.Goals as goal

pub invariant_of-self : goal.invariant_of-self
invariant_of-self g c =
    let a = c.self.inside in
    let d = c.args.delivery.now in
    tally-repeat (known_at a.store.now (borrowed a.known)) a.store.now a.deliveries c.push.new.self (option_to_list a.failed) (option_to_list a.closed) d a.pruned_below a.counts c.saturating_inc-self-inside.result c.saturating_inc-self-inside-2.result a.written a.skips.items c.self.invariant
    (subst (λ v. is_below (cut_behind v.deliveries) d.visit.depth ≡ false) (sym c.self.view_is) c.requires.kept.1)
    c.requires.passing
    (subst (λ v. unwritten_block v.store (kept v.deliveries) d ≡ None) (sym c.self.view_is) c.requires.none_due)
    c.push.ensures c.saturating_inc-self-inside.ensures c.saturating_inc-self-inside-2.ensures
