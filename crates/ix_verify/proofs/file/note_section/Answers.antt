use Rattle.std.proofs.Common.{ℕ, List, ◌∷◌, [], refl, sym, ◌∙◌, ap, subst}
use Rattle.std.specs.Prelude.{OnOk}
use Rattle.ix_sections.specs.declared.reader.sections.Section.{Section}
use Rattle.ix_verify.specs.Outcome.{section_finding}
use Rattle.ix_verify.specs.Noting.{NotesMore}
use Rattle.ix_verify.specs.declared.found.Unsound.{Unsound}
use Rattle.ix_verify.proofs.ToldSections.{told-faulty}
use Rattle.ix_verify.proofs.file.note_section.Goals as goal

pub returns-then-not-has_room : goal.returns-then-not-has_room
returns-then-not-has_room c =
    let s : Section = c.args.section.now in
    let one : Unsound = record { place = s.place; cid = s.cid; verdict = c.args.verdict } in
    subst (λ (l : List Unsound). NotesMore section_finding c.args.most l c.args.unsound.now c.count.new.self)
    (sym (told-faulty s c.args.verdict (sym c.is_sound.ensures ∙ c.if-is_sound.false))) (c.count.ensures section_finding one refl)

pub returns : goal.returns
returns c =
    let s : Section = c.args.section.now in
    let told : Unsound → List Unsound = λ u. u ∷ [] in
    subst (λ (l : List Unsound). OnOk c.note.result (NotesMore section_finding c.args.most l c.args.unsound.now c.note.new.self))
    (ap (λ (cid : List ℕ). told (record { place = s.place; cid = cid; verdict = c.args.verdict })) c.in_ok-to_cid.ensures.same
    ∙ sym (told-faulty s c.args.verdict (sym c.is_sound.ensures ∙ c.if-is_sound.false))) (c.note.ensures section_finding refl)
