use Rattle.ix_car.proofs.Archives.{archive-whole, archive-begun}
use Rattle.ix_car.proofs.law.archive_is_of_its_job.Goals as goal

pub returns-clause-whole : goal.returns-clause-whole
returns-clause-whole g c a known store number job guarantee faithful = archive-whole g.W.Write.contents a known store number job guarantee faithful

pub returns-clause-beginning : goal.returns-clause-beginning
returns-clause-beginning g c a known store number job end guarantee faithful = archive-begun g.W.Write.contents a known store number job guarantee end faithful
