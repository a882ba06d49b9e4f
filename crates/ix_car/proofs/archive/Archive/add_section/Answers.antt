use Rattle.std.proofs.Common.{◌≡◌, ◌≤◌, ◌<◌, ◌-◌, ◌^◌, [], ◌++◌, length, false, sym, subst, ◌∙◌, refl, arith}
use Rattle.std.specs.Prelude.{option_to_list, Some}
use Rattle.std.proofs.lemmas.List.{length-append}
use Rattle.ix_car.specs.Kept.{is_below, kept}
use Rattle.ix_car.specs.Archive.{is_known, known_at}
use Rattle.ix_car.specs.ArchiveMeaning.{borrowed, known_in}
use Rattle.ix_car.specs.Archiving.{cut_behind, unwritten_block, text_due}
use Rattle.ix_car.proofs.Steps.{at-ok, at-err}
use Rattle.ix_car.proofs.Tally.{tally-same, tally-failed, tally-section}
use Rattle.ix_car.proofs.Delivered.{section-text, due-within, adds-section, fails-section}
use Rattle.ix_car.proofs.archive.Archive.add_section.Goals as goal

pub bytes-block-requires : goal.bytes-block-requires
bytes-block-requires g c =
    let a = c.self.inside in
    let d = c.args.delivery in
    due-within a.store.now (kept a.deliveries) d c.args.place (subst (λ v. unwritten_block v.store (kept v.deliveries) d ≡ Some c.args.place) (sym c.self.view_is) c.requires.due)

pub invariant_of-self-then-is_err-2 : goal.invariant_of-self-then-is_err-2
invariant_of-self-then-is_err-2 g c =
    let a = c.self.inside in
    tally-same (known_at a.store.now (borrowed a.known)) a.store.now a.deliveries (option_to_list a.failed) (option_to_list a.closed) a.pruned_below a.counts a.written c.insert.new.self a.skips.items c.self.invariant
    (at-err c.insert.result c.is_err-2.result c.insert.ensures.err c.is_err-2.ensures.value c.if-is_err-2.true)

pub invariant_of-self-then-taken-length : goal.invariant_of-self-then-taken-length
invariant_of-self-then-taken-length g c =
    let a = c.self.inside in
    let d = c.args.delivery in
    let within : c.saturating_add-self-inside.result ≤ 2 ^ 64 - 1 = omega (arith, c.saturating_add-self-inside.ensures) in
    tally-failed (known_at a.store.now (borrowed a.known)) a.store.now a.deliveries (option_to_list a.failed) (option_to_list a.closed) d a.pruned_below a.counts c.saturating_add-self-inside.result a.written c.insert.new.self a.skips.items c.self.invariant within

pub returns-then-taken-length : goal.returns-then-taken-length
returns-then-taken-length g c =
    let a = c.self.inside in
    let d = c.args.delivery in
    let head = c.as_slice-head.result.now in
    let block = c.bytes-block.result.now in
    let text : head ++ block ≡ text_due (known_at a.store.now (borrowed a.known)) a.store.now a.deliveries d = section-text (known_at a.store.now (borrowed a.known)) a.store.now a.deliveries d c.args.place head block (subst (λ v. is_below (cut_behind v.deliveries) d.visit.depth ≡ false) (sym c.self.view_is) c.requires.kept.1)
    (subst (λ v. unwritten_block v.store (kept v.deliveries) d ≡ Some c.args.place) (sym c.self.view_is) c.requires.due) (subst (λ v. is_known (known_in v) d.visit.cid ≡ false) (sym c.self.view_is) c.requires.new) c.bytes-block.ensures
    (c.as_slice-head.ensures.value ∙ at-ok c.set_section_head.result c.is_err.result c.set_section_head.ensures c.is_err.ensures.value c.if-is_err.false) in
    let short : c.write_section-taken.result < length (head ++ block) = omega (arith, length-append head block, c.if-taken-length.true) in
    rw (← c.self.view_is) (fails-section g.W.Write.contents d a.store.now a.job.value.roots (borrowed a.known) a.deliveries a.deliveries (option_to_list a.failed) (option_to_list a.closed) a.counts.bytes c.saturating_add-self-inside.result c.write_section-taken.result a.writer c.write_section-taken.new.writer (head ++ block) (text_due (known_at a.store.now (borrowed a.known)) a.store.now a.deliveries d) refl text short c.write_section-taken.ensures.grown c.saturating_add-self-inside.ensures)

pub invariant_of-self-2 : goal.invariant_of-self-2
invariant_of-self-2 g c =
    let a = c.self.inside in
    let d = c.args.delivery in
    let within : c.saturating_add-self-inside.result ≤ 2 ^ 64 - 1 = omega (arith, c.saturating_add-self-inside.ensures) in
    tally-section (known_at a.store.now (borrowed a.known)) a.store.now a.deliveries c.push.new.self (option_to_list a.failed) (option_to_list a.closed) d a.pruned_below a.counts c.saturating_inc-self-inside.result c.saturating_inc-self-inside-2.result c.saturating_inc-self-inside-3.result c.saturating_add-self-inside.result c.args.place a.written c.insert.new.self a.skips.items c.self.invariant
    (subst (λ v. is_below (cut_behind v.deliveries) d.visit.depth ≡ false) (sym c.self.view_is) c.requires.kept.1)
    (subst (λ v. unwritten_block v.store (kept v.deliveries) d ≡ Some c.args.place) (sym c.self.view_is) c.requires.due)
    (subst (λ v. is_known (known_in v) d.visit.cid ≡ false) (sym c.self.view_is) c.requires.new)
    (at-ok c.insert.result c.is_err-2.result c.insert.ensures.inserted c.is_err-2.ensures.value c.if-is_err-2.false)
    c.push.ensures c.saturating_inc-self-inside.ensures c.saturating_inc-self-inside-2.ensures c.saturating_inc-self-inside-3.ensures within

pub returns : goal.returns
returns g c =
    let a = c.self.inside in
    let d = c.args.delivery in
    let head = c.as_slice-head.result.now in
    let block = c.bytes-block.result.now in
    let text : head ++ block ≡ text_due (known_at a.store.now (borrowed a.known)) a.store.now a.deliveries d = section-text (known_at a.store.now (borrowed a.known)) a.store.now a.deliveries d c.args.place head block (subst (λ v. is_below (cut_behind v.deliveries) d.visit.depth ≡ false) (sym c.self.view_is) c.requires.kept.1)
    (subst (λ v. unwritten_block v.store (kept v.deliveries) d ≡ Some c.args.place) (sym c.self.view_is) c.requires.due) (subst (λ v. is_known (known_in v) d.visit.cid ≡ false) (sym c.self.view_is) c.requires.new) c.bytes-block.ensures
    (c.as_slice-head.ensures.value ∙ at-ok c.set_section_head.result c.is_err.result c.set_section_head.ensures c.is_err.ensures.value c.if-is_err.false) in
    let within : c.write_section-taken.result ≤ length (head ++ block) = omega (arith, length-append head block, c.write_section-taken.ensures.within) in
    let whole : length (head ++ block) ≤ c.write_section-taken.result = omega (arith, length-append head block, c.if-taken-length.false) in
    rw (← c.self.view_is) (adds-section g.W.Write.contents d a.store.now a.job.value.roots (borrowed a.known) a.deliveries c.push.new.self (option_to_list a.failed) (option_to_list a.closed) a.counts.bytes c.saturating_add-self-inside.result c.write_section-taken.result a.writer c.write_section-taken.new.writer (head ++ block) (text_due (known_at a.store.now (borrowed a.known)) a.store.now a.deliveries d)
    (subst (λ v. v.failed ≡ []) (sym c.self.view_is) c.requires.kept.0) c.push.ensures text within whole c.write_section-taken.ensures.grown c.saturating_add-self-inside.ensures)
