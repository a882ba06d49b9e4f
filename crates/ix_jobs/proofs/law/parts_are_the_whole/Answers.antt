use Rattle.ix_jobs.proofs.PartLaws.{parts-whole}
use Rattle.ix_jobs.proofs.law.parts_are_the_whole.Goals as goal

pub returns : goal.returns
returns g c = λ n xs some. parts-whole n some xs
