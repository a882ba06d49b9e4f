use Rattle.std.proofs.Common.{◌≡◌, ◌≤◌, ◌-◌, ◌^◌, [], true, false, sym, subst}
use Rattle.std.specs.Prelude.{option_to_list, Some}
use Rattle.ix_car.specs.Kept.{is_below, kept}
use Rattle.ix_car.specs.Archive.{is_known, known_at}
use Rattle.ix_car.specs.ArchiveMeaning.{borrowed, known_in}
use Rattle.ix_car.specs.Archiving.{cut_behind, unwritten_block}
use Rattle.ix_car.proofs.Steps.{at-ok}
use Rattle.ix_car.proofs.Tally.{tally-bytes, tally-known}
use Rattle.ix_car.proofs.Delivered.{adds-nothing}
use Rattle.ix_car.proofs.archive.Archive.add_known.Goals as goal

pub invariant_of-self-2 : goal.invariant_of-self-2
invariant_of-self-2 g c =
    let a = c.self.inside in
    let d = c.args.delivery in
    tally-known (known_at a.store.now (borrowed a.known)) a.store.now a.deliveries c.push.new.self (option_to_list a.failed) (option_to_list a.closed) d a.pruned_below a.counts c.saturating_inc-self-inside.result c.saturating_inc-self-inside-2.result c.args.place c.counted_more-self-inside.result a.written c.insert.new.self a.skips.items c.self.invariant
    (subst (λ v. is_below (cut_behind v.deliveries) d.visit.depth ≡ false) (sym c.self.view_is) c.requires.kept.1)
    (subst (λ v. unwritten_block v.store (kept v.deliveries) d ≡ Some c.args.place) (sym c.self.view_is) c.requires.due)
    (subst (λ v. is_known (known_in v) d.visit.cid ≡ true) (sym c.self.view_is) c.requires.known)
    (at-ok c.insert.result c.is_err.result c.insert.ensures.inserted c.is_err.ensures.value c.if-is_err.false)
    c.push.ensures c.saturating_inc-self-inside.ensures c.saturating_inc-self-inside-2.ensures c.counted_more-self-inside.ensures

pub returns : goal.returns
returns g c =
    let a = c.self.inside in
    let d = c.args.delivery in
    let within : a.counts.bytes ≤ 2 ^ 64 - 1 = tally-bytes (known_at a.store.now (borrowed a.known)) a.store.now a.deliveries (option_to_list a.failed) (option_to_list a.closed) a.pruned_below a.counts a.written a.skips.items c.self.invariant in
    rw (← c.self.view_is) (adds-nothing g.W.Write.contents d a.store.now a.job.value.roots (borrowed a.known) a.deliveries c.push.new.self (option_to_list a.failed) (option_to_list a.closed) a.counts.bytes a.writer
    (subst (λ v. v.failed ≡ []) (sym c.self.view_is) c.requires.kept.0) within c.push.ensures)
