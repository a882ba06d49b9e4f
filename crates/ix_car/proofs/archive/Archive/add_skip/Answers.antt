use Rattle.std.proofs.Common.{◌≡◌, ◌≤◌, ◌-◌, ◌^◌, List, [], ◌∷◌, ◌++◌, false, sym, ap, subst, ◌∙◌}
use Rattle.std.specs.Prelude.{option_to_list}
use Rattle.ix_car.specs.declared.archive.Skip.{Skip}
use Rattle.ix_car.specs.Kept.{is_below}
use Rattle.ix_car.specs.Archive.{known_at}
use Rattle.ix_car.specs.ArchiveMeaning.{borrowed}
use Rattle.ix_car.specs.Archiving.{cut_behind}
use Rattle.ix_car.proofs.Tally.{tally-bytes, tally-skip}
use Rattle.ix_car.proofs.Delivered.{adds-nothing}
use Rattle.ix_car.proofs.archive.Archive.add_skip.Goals as goal

pub invariant_of-self-2 : goal.invariant_of-self-2
invariant_of-self-2 g c =
    let a = c.self.inside in
    let d = c.args.delivery in
    let skip : Skip = record { seq = d.visit.seq; cid = d.visit.cid; verdict = d.verdict } in
    let skipped : c.push_reserved.new.self.items ≡ a.skips.items ++ skip ∷ [] = ◌∙◌ {A = List Skip} c.push_reserved.ensures.items (ap (λ (l : List Skip). l ++ skip ∷ []) c.reserve.ensures.items) in
    tally-skip (known_at a.store.now (borrowed a.known)) a.store.now a.deliveries c.push.new.self (option_to_list a.failed) (option_to_list a.closed) d a.pruned_below a.counts c.saturating_inc-self-inside.result c.saturating_inc-self-inside-2.result a.written a.skips.items c.push_reserved.new.self.items c.self.invariant
    (subst (λ v. is_below (cut_behind v.deliveries) d.visit.depth ≡ false) (sym c.self.view_is) c.requires.kept.1)
    c.requires.refused
    c.push.ensures skipped c.saturating_inc-self-inside.ensures c.saturating_inc-self-inside-2.ensures

pub returns : goal.returns
returns g c =
    let a = c.self.inside in
    let d = c.args.delivery in
    let within : a.counts.bytes ≤ 2 ^ 64 - 1 = tally-bytes (known_at a.store.now (borrowed a.known)) a.store.now a.deliveries (option_to_list a.failed) (option_to_list a.closed) a.pruned_below a.counts a.written a.skips.items c.self.invariant in
    rw (← c.self.view_is) (adds-nothing g.W.Write.contents d a.store.now a.job.value.roots (borrowed a.known) a.deliveries c.push.new.self (option_to_list a.failed) (option_to_list a.closed) a.counts.bytes a.writer
    (subst (λ v. v.failed ≡ []) (sym c.self.view_is) c.requires.kept.0) within c.push.ensures)
