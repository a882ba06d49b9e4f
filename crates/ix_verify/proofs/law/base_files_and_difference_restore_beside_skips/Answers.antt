use Rattle.ix_verify.proofs.Differences.{difference-beside_skips, files-beside_skips}
use Rattle.ix_verify.proofs.law.base_files_and_difference_restore_beside_skips.Goals as goal

pub returns-clause-difference_first : goal.returns-clause-difference_first
returns-clause-difference_first c store base files number job read = difference-beside_skips store base files number job read

pub returns-clause-base_first : goal.returns-clause-base_first
returns-clause-base_first c store base files number job read sound readable agrees skips = files-beside_skips store base files number job read readable agrees skips sound
