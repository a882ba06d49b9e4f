use Rattle.std.proofs.Common.{◌≤◌, [], length, map}
use Rattle.ix_sections.specs.Sections.{sections_after}
use Rattle.ix_sections.specs.SectionView.{section_of}
use Rattle.ix_sections.proofs.SectionLists.{ListGoesOn}
use Rattle.ix_sections.proofs.reader.sections.sections_after.Given as goal

abbrev pub invariant-loop-rest : goal.invariant-loop-rest
invariant-loop-rest l = record {
  within : length l.rest ≤ length l.bytes;
  goes_on : ListGoesOn l.size (map section_of l.sections.items) l.rest (sections_after l.size (length l.bytes) [] l.bytes);
}

abbrev pub decreases-loop-rest : goal.decreases-loop-rest
decreases-loop-rest l = length l.rest
