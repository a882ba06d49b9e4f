use Rattle.std.proofs.Common.{length}
use Rattle.ix_sections.specs.Sections.{section_list}
use Rattle.ix_verify.proofs.Batches.{AreJudgedTo}
use Rattle.ix_verify.proofs.file.judge_file.Given as goal

abbrev pub invariant-loop-rest : goal.invariant-loop-rest
invariant-loop-rest g l = AreJudgedTo (length l.car) l.most l.rest l.count l.unsound (section_list l.car)

abbrev pub decreases-loop-rest : goal.decreases-loop-rest
decreases-loop-rest g l = length l.rest
