use Rattle.ix_car.specs.Archive.{archive_of}
use Rattle.ix_own_archive.proofs.Exported.{own-open}
use Rattle.ix_own_archive.proofs.law.exported_is_not_refused.Goals as goal

pub returns : goal.returns
returns c = λ store number job reason is within rightly. own-open number job (archive_of store number job) reason (c.archive_is_its_own.ensures.own store number job is within) rightly
