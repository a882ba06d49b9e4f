use Rattle.ix_path.proofs.Entered.{enters_along, enters_the_path, enters_all_below, enters_its_end, keeps_what_enters}
use Rattle.ix_path.proofs.law.along_a_path.Goals as goal

pub returns-clause-along : goal.returns-clause-along
returns-clause-along c = enters_along

pub returns-clause-alone : goal.returns-clause-alone
returns-clause-alone c = enters_the_path

pub returns-clause-below : goal.returns-clause-below
returns-clause-below c = enters_all_below

pub returns-clause-end : goal.returns-clause-end
returns-clause-end c = enters_its_end

pub returns-clause-kept : goal.returns-clause-kept
returns-clause-kept c = keeps_what_enters
