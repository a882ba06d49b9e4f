use Rattle.std.proofs.Common.{◌≡◌, map, take}
use Rattle.ix_sections.specs.Sections.{with_sections}
use Rattle.ix_sections.specs.SectionView.{section_of}
use Rattle.ix_api.proofs.input.add_sections.Given as goal

abbrev pub invariant-loop-section : goal.invariant-loop-section
invariant-loop-section l = l.store ≡ with_sections l.initial.store (map section_of (take l.section-index l.sections))
