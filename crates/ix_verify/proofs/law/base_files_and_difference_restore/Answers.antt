use Rattle.ix_verify.proofs.Differences.{difference-then_files, files-then_difference}
use Rattle.ix_verify.proofs.law.base_files_and_difference_restore.Goals as goal

pub returns-clause-difference_first : goal.returns-clause-difference_first
returns-clause-difference_first c store base files number job read = difference-then_files store base files number job read

pub returns-clause-base_first : goal.returns-clause-base_first
returns-clause-base_first c store base files number job read sound readable agrees done = files-then_difference store base files number job read readable agrees done sound
