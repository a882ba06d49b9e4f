use Rattle.std.specs.Iterator.Adapters.{zip_first, zip_second}
use Rattle.std.specs.Slice.Iter.{iter_rest}
use Rattle.ix_verify.proofs.ToldSections.{AreToldTo}
use Rattle.ix_verify.proofs.file.note_sections.Given as goal

-- what is reported of the sections so far was noted
abbrev pub invariant-loop-section : goal.invariant-loop-section
invariant-loop-section l = AreToldTo l.most l.sections l.verdicts (iter_rest (zip_first l.section-iterator)) (iter_rest (zip_second l.section-iterator)) l.initial.unsound l.unsound
