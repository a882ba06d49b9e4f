use Rattle.std.proofs.Common.{List, ◌∙◌, ap, subst}
use Rattle.std.specs.Prelude.{OnOk}
use Rattle.ix_verify.specs.Outcome.{section_finding}
use Rattle.ix_verify.specs.Noting.{NotesMore}
use Rattle.ix_verify.specs.Counted.{told_among}
use Rattle.ix_verify.specs.declared.found.Unsound.{Unsound}
use Rattle.ix_verify.proofs.ToldSections.{told_among-unsound}
use Rattle.ix_verify.proofs.file.judge_sections.Goals as goal

pub returns : goal.returns
returns g c =
    subst (λ (t : List Unsound). OnOk c.note_sections.result (NotesMore section_finding c.args.most t c.args.unsound.now c.note_sections.new.unsound))
    (ap (told_among c.args.sections.now) (c.as_slice.ensures.value ∙ c.in_ok-verdicts.ensures) ∙ told_among-unsound c.args.sections.now) c.note_sections.ensures
