use Rattle.std.proofs.Common.{◌≤◌, ℕ, length}
use Rattle.std.specs.Arc.{arc_value}
use Rattle.ix_sections.specs.Sections.{sections_in}
use Rattle.ix_sections.specs.Reads.{IsEnd}
use Rattle.ix_sections.proofs.Sections.{HasFile}
use Rattle.ix_sections.proofs.CopyLists.{CopiesGoOn}
use Rattle.ix_sections.proofs.reader.sound.with_copies_of.Given as goal

abbrev pub invariant-loop-rest : goal.invariant-loop-rest
invariant-loop-rest l = record {
  within : length l.rest ≤ length l.sections;
  end : IsEnd l.rest (arc_value l.file).items;
  file : HasFile l.builder.files l.number (arc_value l.file).items;
  goes_on : (size : ℕ) → CopiesGoOn l.fn.builder.pairs l.builder.pairs size l.rest (sections_in size l.sections);
}

abbrev pub decreases-loop-rest : goal.decreases-loop-rest
decreases-loop-rest l = length l.rest
