use Rattle.std.proofs.Common.{◌≤◌, length}
use Rattle.std.specs.Arc.{arc_value}
use Rattle.ix_sections.specs.Reading.{sections_at}
use Rattle.ix_sections.specs.Reads.{IsEnd}
use Rattle.ix_sections.proofs.Sections.{GoesOn, HasFile}
use Rattle.ix_sections.proofs.reader.store.with_blocks_of.Given as goal

abbrev pub invariant-loop-rest : goal.invariant-loop-rest
invariant-loop-rest g l = record {
  within : length l.rest ≤ length l.sections;
  end : IsEnd l.rest (arc_value l.file).items;
  file : HasFile l.builder.files l.number (arc_value l.file).items;
  goes_on : GoesOn l.builder.pairs l.rest (sections_at (length l.sections) l.fn.builder.pairs l.sections);
}

abbrev pub decreases-loop-rest : goal.decreases-loop-rest
decreases-loop-rest g l = length l.rest
