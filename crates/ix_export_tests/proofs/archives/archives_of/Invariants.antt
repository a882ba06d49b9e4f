use Rattle.std.proofs.Common.{◌≡◌, length}
use Rattle.ix_car.specs.ArchiveMeaning.{calls_of}
use Rattle.ix_pipeline.specs.Headline.{EachFresh}
use Rattle.ix_export_tests.proofs.archives.archives_of.Given as goal

abbrev pub invariant-loop-job : goal.invariant-loop-job
invariant-loop-job l = (length l.archives.items ≡ l.job-index) × EachFresh calls_of l.archives.items
