use Rattle.std.proofs.Common.{◌+◌, ◌≤◌, List, length}
use Rattle.ix_sections.specs.Sections.{SectionMeaning, section_list}
use Rattle.ix_sections.proofs.SectionLists.{ListGoesOn}
use Rattle.ix_verify.specs.Tallied.{IsTallied}
use Rattle.ix_verify.proofs.summary.tallied.Given as goal

-- the sections so far are counted, and the file's sections are these and what follows
abbrev pub invariant-loop-rest : goal.invariant-loop-rest
invariant-loop-rest l = (done : List SectionMeaning) × IsTallied done l.summary × (length done + length l.rest ≤ length l.bytes) × ListGoesOn (length l.bytes) done l.rest (section_list l.bytes)

abbrev pub decreases-loop-rest : goal.decreases-loop-rest
decreases-loop-rest l = length l.rest
