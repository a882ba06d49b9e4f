use Rattle.std.proofs.Common.{rules, ◌≡◌, true, false, sym, subst, ◌∙◌}
use Rattle.std.specs.Prelude.{None, Some}
use Rattle.ix_check.specs.Verdict.{passes}
use Rattle.ix_car.specs.Kept.{is_below, kept}
use Rattle.ix_car.specs.ArchiveMeaning.{known_in}
use Rattle.ix_car.specs.Archiving.{IsAdded, IsDelivered, cut_behind, unwritten_block}
use Rattle.ix_car.specs.Archive.{is_known}
use Rattle.ix_car.proofs.FirstSound.{due-refused, due-repeat, due-known, known-place}
use Rattle.ix_car.proofs.archive.Archive.take.Goals as goal

pub returns-in-None : goal.returns-in-None
returns-in-None g c =
    let a = c.args.self.now in
    let d = c.args.delivery in
    let uncut : is_below (cut_behind a.deliveries) d.visit.depth ≡ false = sym c.is_cut_off.ensures ∙ c.if-is_cut_off.false in
    let none : unwritten_block a.store (kept a.deliveries) d ≡ None = sym c.unwritten_block.ensures ∙ c.in-None.is in
    subst (λ t. IsAdded g.W.Write.contents d t a c.add_without_section.new.self) (sym (due-repeat (known_in a) a.store a.deliveries d uncut none)) c.add_without_section.ensures

pub returns-then-is_cut_off : goal.returns-then-is_cut_off
returns-then-is_cut_off g c = search rules

pub returns-then-not-passes : goal.returns-then-not-passes
returns-then-not-passes g c =
    let a = c.args.self.now in
    let d = c.args.delivery in
    let uncut : is_below (cut_behind a.deliveries) d.visit.depth ≡ false = sym c.is_cut_off.ensures ∙ c.if-is_cut_off.false in
    let refused : passes d.verdict ≡ false = sym c.passes.ensures ∙ c.if-not-passes.true in
    subst (λ t. IsDelivered g.W.Write.contents d t a c.add_skip.result c.add_skip.new.self) (sym (due-refused (known_in a) a.store a.deliveries d uncut refused)) c.add_skip.ensures

pub returns-in-Some : goal.returns-in-Some
returns-in-Some g c =
    let a = c.args.self.now in
    let d = c.args.delivery in
    let uncut : is_below (cut_behind a.deliveries) d.visit.depth ≡ false = sym c.is_cut_off.ensures ∙ c.if-is_cut_off.false in
    let due : unwritten_block a.store (kept a.deliveries) d ≡ Some c.in-Some.place = sym c.unwritten_block.ensures ∙ c.in-Some.is in
    let has : is_known (known_in a) d.visit.cid ≡ true = known-place a.known a.store (kept a.deliveries) d c.in-Some.place due ∙ sym c.is_known.ensures ∙ c.if-is_known.true in
    subst (λ t. IsDelivered g.W.Write.contents d t a c.add_known.result c.add_known.new.self) (sym (due-known (known_in a) a.store a.deliveries d uncut has)) c.add_known.ensures
